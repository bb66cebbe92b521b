-- Records of rows or pivots that are written one after another are read as their numbers.
use Rattle.std.proofs.Common.{◌≡◌, ◌≢◌, ℕ, zero, suc, ◌+◌, ◌<◌, ◌≤◌, ◌^◌, ℤ, pos, Bool, true, false, ◌&&◌, List, [], ◌∷◌, ◌++◌, map, codes, length, replicate, Some, None, Ok, if◌then◌else◌, refl, sym, ap, subst, ◌∙◌, arith, All, add-zero, append-nil, append_assoc, lit≤, inl, inr}
use Rattle.std.proofs.lemmas.Bool.{cases_lt}
use Rattle.std.proofs.lemmas.Int.{ints}
use Rattle.std.specs.List.{list_all}
use Rattle.std.specs.Ordering.{int_eq}
use Rattle.md_math.specs.Lists.{number_at, up_to}
use Rattle.md_math.proofs.Builders.{map-up_to, up_to-same}
use Rattle.md_num.specs.WholeText.{text_of}
use Rattle.md_parts.specs.Fields.{Field, number_field, is_place, place_field}
use Rattle.md_parts.specs.Reading.{then_read}
use Rattle.md_parts.specs.Repeated.{comes_next, repeated}
use Rattle.md_parts.specs.Multipliers.{row_fields, after_row, record_of, number_in, number_for}
use Rattle.md_parts.specs.Rows.{number_row, row_unless_zero}
use Rattle.md_parts.specs.Written.{Holds}
use Rattle.md_parts.proofs.NumbersRead.{IsInField}
use Rattle.md_parts.proofs.Repeats.{repeated-ends, repeated-more}
use Rattle.md_parts.proofs.Spread.{int_eq-own, int_eq-other}
use Rattle.md_parts.proofs.WrittenRecords.{holds-cons, holds-numbers, number_field-holds, record-written, same_bytes}

-- each record holds what its fields may, after the one before it
abbrev pub HoldFrom : {S : Type 0} → (S → List Field) → (S → List ℤ → S) → S → List (List ℤ) → Type 0
HoldFrom fields later state [] = Unit {0}
HoldFrom fields later state (numbers ∷ others) = Holds (fields state) (map text_of numbers) numbers × HoldFrom fields later (later state numbers) others

pub repeated-written : {S : Type 0} (word : List ℕ) (fields : S → List Field) (later : S → List ℤ → S) (state : S) (records : List (List ℤ)) (read : ℕ) (others : List (List (List ℕ))) → HoldFrom fields later state records → comes_next word others ≡ false
    → repeated word fields later state record { read = read; left = map (number_row word) records ++ others } ≡ Ok (records, record { read = read + length records; left = others })
repeated-written {S} word fields later state [] read others h ends = rw (add-zero read) (repeated-ends word fields later state record { read = read; left = others } ends)
repeated-written {S} word fields later state (numbers ∷ records) read others h ends =
    let one = record-written word (fields state) (map text_of numbers) numbers read (map (number_row word) records ++ others) h.0 in
    let more = repeated-written word fields later (later state numbers) records (read + 1) others h.1 ends in
    let count : read + 1 + length records ≡ read + suc (length records) = omega arith in
    repeated-more word fields later state record { read = read; left = map (number_row word) (numbers ∷ records) ++ others } record { read = read + 1; left = map (number_row word) records ++ others } numbers (same_bytes word) one
    ∙ ap (λ r. then_read r (λ more rest. Ok (numbers ∷ more, rest))) more
    ∙ ap (λ (n : ℕ). Ok (numbers ∷ records, record { read = n; left = others })) count

-- ---- the records of rows, of which those of zeros are left out

abbrev pub is_zero : List ℤ → Bool
is_zero multipliers = list_all (int_eq (pos 0)) multipliers

abbrev unless_zero : Bool → ℕ → List ℤ → List (List ℤ)
unless_zero zeros row multipliers = if zeros then [] else (pos row ∷ multipliers) ∷ []

abbrev pub record_unless_zero : (ℕ → List ℤ) → ℕ → List (List ℤ)
record_unless_zero f row = unless_zero (is_zero (f row)) row (f row)

-- from one row on, so many
abbrev pub records_from : ℕ → ℕ → (ℕ → List ℤ) → List (List ℤ)
records_from row zero f = []
records_from row (suc n) f = record_unless_zero f row ++ records_from (suc row) n f

up_to-from : (row n : ℕ) (f : ℕ → List ℤ) → up_to row (record_unless_zero f) ++ records_from row n f ≡ up_to (row + n) (record_unless_zero f)
up_to-from row zero f = rw (add-zero row) (append-nil (up_to row (record_unless_zero f)))
up_to-from row (suc n) f =
    let e : suc row + n ≡ row + suc n = omega arith in
    sym (append_assoc (up_to row (record_unless_zero f)) (record_unless_zero f row) (records_from (suc row) n f)) ∙ up_to-from (suc row) n f ∙ ap (λ (k : ℕ). up_to k (record_unless_zero f)) e

pub all-from : (n : ℕ) (f : ℕ → List ℤ) → up_to n (record_unless_zero f) ≡ records_from 0 n f
all-from n f = let e : 0 + n ≡ n = omega arith in sym (up_to-from 0 n f ∙ ap (λ (k : ℕ). up_to k (record_unless_zero f)) e)

row-if : (b : Bool) (row : ℕ) (multipliers : List ℤ) → map (number_row ((codes "row"))) (unless_zero b row multipliers) ≡ (if b then [] else number_row (codes "row") (pos row ∷ multipliers) ∷ [])
row-if true row multipliers = refl
row-if false row multipliers = refl

-- the records that are written are those
pub rows-written : (n : ℕ) (f : ℕ → List ℤ) → up_to n (λ r. row_unless_zero r (f r)) ≡ map (number_row (codes "row")) (records_from 0 n f)
rows-written n f =
    sym (ap (map (number_row (codes "row"))) (sym (all-from n f)) ∙ map-up_to (number_row (codes "row")) n (record_unless_zero f)
    ∙ up_to-same n (λ r. map (number_row (codes "row")) (record_unless_zero f r)) (λ r. row_unless_zero r (f r)) (λ r l. row-if (is_zero (f r)) r (f r)))

-- they stand at places that ascend
is_place-inside : (from below place : ℕ) → from ≤ place → place < below → is_place from below (pos place) ≡ true
is_place-inside from below place l m = grind (arith, ints)

pub place-holds : (from below place : ℕ) → from ≤ place → place < below → below ≤ 2 ^ 32 → IsInField 62 (is_place from below) (pos place)
place-holds from below place l m small = record { passes = is_place-inside from below place l m; small = record { within = omega arith } }

hold-if : (b : Bool) (rows count row least : ℕ) (multipliers : List ℤ) (others : List (List ℤ)) → length multipliers ≡ count → All (IsInField 62 (λ _. true)) multipliers → least ≤ row → row < rows → rows ≤ 2 ^ 32
    → ((k : ℕ) → k ≤ suc row → HoldFrom (row_fields rows count) after_row k others) → HoldFrom (row_fields rows count) after_row least (unless_zero b row multipliers ++ others)
hold-if true rows count row least multipliers others long all l m few more = more least (omega arith)
hold-if false rows count row least multipliers others long all l m few more =
    let numbers : Holds (replicate count (number_field 62 (λ _. true))) (map text_of multipliers) multipliers = subst (λ (n : ℕ). Holds (replicate n (number_field 62 (λ _. true))) (map text_of multipliers) multipliers) long (holds-numbers 62 (λ _. true) multipliers (lit≤ tt) all) in (
      holds-cons (place_field least rows) (replicate count (number_field 62 (λ _. true))) (text_of (pos row)) (map text_of multipliers) (pos row) multipliers
          (number_field-holds 62 (is_place least rows) (pos row) (lit≤ tt) (place-holds least rows row l m few)) numbers,
      more (row + 1) (omega arith),
    )

pub hold-from : (rows count row n least : ℕ) (f : ℕ → List ℤ) → ((k : ℕ) → k < rows → (length (f k) ≡ count) × All (IsInField 62 (λ _. true)) (f k)) → least ≤ row → row + n ≤ rows → rows ≤ 2 ^ 32
    → HoldFrom (row_fields rows count) after_row least (records_from row n f)
hold-from rows count row zero least f each l m few = tt
hold-from rows count row (suc n) least f each l m few =
    let (long, all) = each row (omega arith) in
    hold-if (is_zero (f row)) rows count row least (f row) (records_from (suc row) n f) long all l (omega arith) few
    (λ k b. hold-from rows count (suc row) n k f each b (omega arith) few)

-- ---- what the records have for each row

skip-if : (b : Bool) (row other : ℕ) (multipliers : List ℤ) (others : List (List ℤ)) → row ≢ other → record_of (unless_zero b row multipliers ++ others) other ≡ record_of others other
skip-if true row other multipliers others ne = refl
skip-if false row other multipliers others ne = rw (int_eq-other row other ne) refl

own-if : (b : Bool) (row : ℕ) (multipliers : List ℤ) (others : List (List ℤ)) → record_of others row ≡ None
    → record_of (unless_zero b row multipliers ++ others) row ≡ (if b then None else Some (pos row ∷ multipliers))
own-if true row multipliers others absent = absent
own-if false row multipliers others absent = rw (int_eq-own row) refl

absent-before : (row n other : ℕ) (f : ℕ → List ℤ) → other < row → record_of (records_from row n f) other ≡ None
absent-before row zero other f l = refl
absent-before row (suc n) other f l =
    skip-if (is_zero (f row)) row other (f row) (records_from (suc row) n f) (omega arith) ∙ absent-before (suc row) n other f (omega arith)

pub record_of-from : (row n other : ℕ) (f : ℕ → List ℤ) → row ≤ other → other < row + n → record_of (records_from row n f) other ≡ (if is_zero (f other) then None else Some (pos other ∷ f other))
record_of-from row zero other f l m = absurd (omega arith)
record_of-from row (suc n) other f l m =
    elim (cases_lt row other) [
      | inl b ↦ skip-if (is_zero (f row)) row other (f row) (records_from (suc row) n f) (omega arith) ∙ record_of-from (suc row) n other f (omega arith) (omega arith)
      | inr b ↦
          let same : row ≡ other = omega arith in
          subst (λ (k : ℕ). record_of (record_unless_zero f row ++ records_from (suc row) n f) k ≡ (if is_zero (f k) then None else Some (pos k ∷ f k))) same
          (own-if (is_zero (f row)) row (f row) (records_from (suc row) n f) (absent-before (suc row) n row f (omega arith)))
    ]

-- zeros are what is left out
zeros-at : (multipliers : List ℤ) (place : ℕ) → is_zero multipliers ≡ true → number_at multipliers place ≡ pos 0
zeros-at [] place h = refl
zeros-at (z ∷ zs) zero h = grind (arith, ints)
zeros-at (z ∷ zs) (suc place) h = zeros-at zs place (later (int_eq (pos 0) z) (is_zero zs) h)
  where
    later : (a b : Bool) → (a && b) ≡ true → b ≡ true
    later true b h = h
    later false b h = cc

number-if : (b : Bool) (row place : ℕ) (multipliers : List ℤ) → is_zero multipliers ≡ b → number_in (suc place) (if b then None else Some (pos row ∷ multipliers)) ≡ number_at multipliers place
number-if true row place multipliers e = sym (zeros-at multipliers place e)
number-if false row place multipliers e = refl

pub number-from : (n row place : ℕ) (f : ℕ → List ℤ) → row < n → number_for (suc place) (records_from 0 n f) row ≡ number_at (f row) place
number-from n row place f l =
    ap (λ o. number_in (suc place) o) (record_of-from 0 n row f (omega arith) (omega arith)) ∙ number-if (is_zero (f row)) row place (f row) refl
