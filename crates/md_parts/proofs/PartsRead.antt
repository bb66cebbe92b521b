-- What is known of parts that were read.
use Rattle.std.proofs.Common.{◌≡◌, ℕ, zero, suc, ◌+◌, ◌<◌, ◌≤◌, ◌^◌, ◌-◌, ℤ, pos, ◌≤ℤ◌, ◌<ℤ◌, Bool, true, false, List, [], ◌∷◌, map, length, get_or, replicate, codes, Option, None, Some, Result, Ok, Err, if◌then◌else◌, int_le, unsigned_abs, refl, sym, ap, subst, arith, All, IfSome, IfOk, MatchResult, lit≤, lit<}
use Rattle.std.proofs.lemmas.Int.{ints}
use Rattle.std.proofs.lemmas.List.{length-replicate}
use Rattle.std.proofs.lemmas.List.Elements.{All-nil, All-cons, All-head, All-tail}
use Rattle.std.specs.Ordering.{int_eq}
use Rattle.md_math.specs.Lists.{number_at}
use Rattle.md_math.specs.Sizes.{IsWithin}
use Rattle.md_math.proofs.SizeLaws.{IsWithin-zero}
use Rattle.md_math.proofs.Builders.{length-list_to, get_or-list_to}
use Rattle.md_num.specs.declared.frac.Frac.{Frac}
use Rattle.md_setting.specs.Setting.{GeneralSetting}
use Rattle.md_lp.specs.declared.pivot.Pivot.{Pivot}
use Rattle.md_lp.specs.declared.entry.Entry.{Entry}
use Rattle.md_lp.specs.declared.wide.Wide.{Wide}
use Rattle.md_cert.specs.declared.bound.Bound.{Bound}
use Rattle.md_cert.specs.Fitting.{IsDenominator}
use Rattle.md_parts.specs.declared.refusal.AnswerRefusal.{AnswerRefusal}
use Rattle.md_parts.specs.declared.version.Version.{Version}
use Rattle.md_parts.specs.declared.version.Version.TheVariants.{One, Two}
use Rattle.md_parts.specs.Fields.{Field, numbers_of, number_field, any_number, denominator_field, wide_number, wide_denominator, is_place, table_place}
use Rattle.md_parts.specs.Reading.{Rest, then_read, read_record}
use Rattle.md_parts.specs.Repeated.{has_word, repeated_in, repeated}
use Rattle.md_parts.specs.Table.{all_payments_of, ray_of, value_of}
use Rattle.md_parts.specs.Multipliers.{row_fields, after_row, record_of, number_in, number_for, numbers_for, row_records, bound_denominator, bound_of, face_of}
use Rattle.md_parts.specs.Path.{pivot_fields, no_change, pivot_of, path_of, entry_of, wide_of, second_of}
use Rattle.md_parts.specs.Fitting.{IsFraction, AreMultipliers, IsBoundOver, IsRayFor, HasFraction, IsTablePlace, HasWidePlaces}
use Rattle.md_parts.proofs.NumbersRead.{IsInField, number_field-is, numbers-first, record-was_read}
use Rattle.md_parts.proofs.Blocks.{in_two}
use Rattle.md_parts.proofs.MechanismRead.{mechanism-accepted, pays-known}

-- ---- a field of a record that was read

pub record IsFieldRead (field : Field) (number : ℤ) : Type 0 where
  pub text : List ℕ
  pub holds : field text ≡ Some number

field-at : (place : ℕ) (fields : List Field) (texts : List (List ℕ)) (numbers : List ℤ) (i : ℕ) (d : Field) → length texts ≡ length fields → numbers_of place fields texts ≡ Ok numbers → i < length fields
    → IsFieldRead (get_or fields i d) (number_at numbers i)
field-at place [] texts numbers i d long h l = absurd (omega arith)
field-at place (field ∷ fields) [] numbers i d long h l = absurd (omega arith)
field-at place (field ∷ fields) (text ∷ texts) numbers zero d long h l =
    let f = numbers-first place field fields text texts numbers h in
    subst (λ (ns : List ℤ). IsFieldRead field (number_at ns 0)) (sym f.all) (record { text = text; holds = f.holds })
field-at place (field ∷ fields) (text ∷ texts) numbers (suc i) d long h l =
    let f = numbers-first place field fields text texts numbers h in
    subst (λ (ns : List ℤ). IsFieldRead (get_or fields i d) (number_at ns (suc i))) (sym f.all) (field-at (place + 1) fields texts f.others i d (omega arith) f.rest (omega arith))

record-field : (word : List ℕ) (fields : List Field) (rest after : Rest) (numbers : List ℤ) (i : ℕ) (d : Field) → read_record word fields rest ≡ Ok (numbers, after) → i < length fields
    → IsFieldRead (get_or fields i d) (number_at numbers i)
record-field word fields rest after numbers i d h l =
    let r = record-was_read word fields rest numbers after h in field-at 2 fields r.texts numbers i d r.long r.read l

in-field : (bits : ℕ) (test : ℤ → Bool) (z : ℤ) → bits ≤ 126 → IsFieldRead (number_field bits test) z → IsInField bits test z
in-field bits test z l h = number_field-is bits test h.text z l h.holds

int_le-true : (a z : ℤ) → int_le a z ≡ true → a ≤ℤ z
int_le-true a z h = grind (arith, ints)

int_le-above : (z : ℤ) → int_le (pos 1) z ≡ true → pos 0 <ℤ z
int_le-above z h = let l = int_le-true (pos 1) z h in omega (arith, ints)

place-below : (from below : ℕ) (z : ℤ) → is_place from below z ≡ true → unsigned_abs z < below
place-below from below z h = grind (arith, ints)

-- ---- values and entries

fraction-known : (num den : ℤ) → IsFieldRead wide_number num → IsFieldRead wide_denominator den → IsFraction num den
fraction-known num den n d =
    let a = in-field 126 (λ _. true) num (lit≤ tt) n in
    let b = in-field 126 (int_le (pos 1)) den (lit≤ tt) d in
    record { positive = int_le-true (pos 1) den b.passes; num_size = a.small; den_size = b.small }

pub value-known : (rest after : Rest) (value : Frac) → value_of rest ≡ Ok (value, after) → IsFraction value.num value.den
value-known rest after value h =
    let fields : List Field = wide_number ∷ wide_denominator ∷ [] in
    let two = in_two (read_record (codes "value") fields rest) _ value after h in
    let made : Frac = record { num = number_at two.one 0; den = number_at two.one 1 } in
    let pair : (made, two.mid) ≡ (value, after) = cc in
    let same : made ≡ value = ap (λ (p : Frac × Rest). p.0) pair in
    subst (λ (v : Frac). IsFraction v.num v.den) same
    (fraction-known (number_at two.one 0) (number_at two.one 1)
    (record-field (codes "value") fields rest two.mid two.one 0 wide_number two.first_is (lit< tt)) (record-field (codes "value") fields rest two.mid two.one 1 wide_number two.first_is (lit< tt)))

table-place-known : (row column : ℤ) → IsFieldRead table_place row → IsFieldRead table_place column → IsTablePlace (unsigned_abs row) (unsigned_abs column)
table-place-known row column r c = record {
  row_in = place-below 0 (2 ^ 32) row (in-field 62 (is_place 0 (2 ^ 32)) row (lit≤ tt) r).passes;
  column_in = place-below 0 (2 ^ 32) column (in-field 62 (is_place 0 (2 ^ 32)) column (lit≤ tt) c).passes;
}

pub entry-known : (rest after : Rest) (entry : Entry) → entry_of rest ≡ Ok (entry, after) → IsFraction entry.num entry.den × IsTablePlace entry.row entry.column
entry-known rest after entry h =
    let fields : List Field = table_place ∷ table_place ∷ wide_number ∷ wide_denominator ∷ [] in
    let two = in_two (read_record (codes "wide") fields rest) _ entry after h in
    let made : Entry = record { row = unsigned_abs (number_at two.one 0); column = unsigned_abs (number_at two.one 1); num = number_at two.one 2; den = number_at two.one 3 } in
    let pair : (made, two.mid) ≡ (entry, after) = cc in
    let same : made ≡ entry = ap (λ (p : Entry × Rest). p.0) pair in
    subst (λ (e : Entry). IsFraction e.num e.den × IsTablePlace e.row e.column) same (
      fraction-known (number_at two.one 2) (number_at two.one 3)
          (record-field (codes "wide") fields rest two.mid two.one 2 wide_number two.first_is (lit< tt)) (record-field (codes "wide") fields rest two.mid two.one 3 wide_number two.first_is (lit< tt)),
      table-place-known (number_at two.one 0) (number_at two.one 1)
          (record-field (codes "wide") fields rest two.mid two.one 0 wide_number two.first_is (lit< tt)) (record-field (codes "wide") fields rest two.mid two.one 1 wide_number two.first_is (lit< tt)),
    )

-- ---- records that come one after another

not_both : (refusal : AnswerRefusal) (value : List (List ℤ) × Rest) → Err refusal ≡ Ok value → ⊥
not_both refusal value e = cc

repeated-if : {S : Type 0} (P : List ℤ → Type 0) (word : List ℕ) (fields : S → List Field) (later : S → List ℤ → S) (state : S) (read : ℕ) (next : List (List ℕ)) (others : List (List (List ℕ))) (b : Bool) (records : List (List ℤ)) (after : Rest)
    → ((numbers : List ℤ) (rest : Rest) → read_record word (fields state) record { read = read; left = next ∷ others } ≡ Ok (numbers, rest) → P numbers)
    → ((s : S) (more : List (List ℤ)) (rest : Rest) → repeated_in word fields later s (read + 1) others ≡ Ok (more, rest) → All P more)
    → if◌then◌else◌ {A = Result (List (List ℤ) × Rest) AnswerRefusal} b
    (then_read (read_record word (fields state) record { read = read; left = next ∷ others }) (λ numbers _. then_read (repeated_in word fields later (later state numbers) (read + 1) others) (λ more rest. Ok (numbers ∷ more, rest))))
    (Ok ([], record { read = read; left = next ∷ others })) ≡ Ok (records, after)
    → All P records
repeated-if {S} P word fields later state read next others true records after one more h =
    let first = in_two (read_record word (fields state) record { read = read; left = next ∷ others }) _ records after h in
    let second = in_two (repeated_in word fields later (later state first.one) (read + 1) others) (λ more rest. Ok (first.one ∷ more, rest)) records after first.next_is in
    let pair : (first.one ∷ second.one, second.mid) ≡ (records, after) = cc in
    subst (λ (rs : List (List ℤ)). All P rs) (ap (λ (p : List (List ℤ) × Rest). p.0) pair)
    (All-cons P first.one second.one (one first.one first.mid first.first_is) (more (later state first.one) second.one second.mid second.first_is))
repeated-if {S} P word fields later state read next others false records after one more h =
    let pair : ([], record { read = read; left = next ∷ others }) ≡ (records, after) = cc in
    subst (λ (rs : List (List ℤ)). All P rs) (ap (λ (p : List (List ℤ) × Rest). p.0) pair) (All-nil P)

repeated-left : {S : Type 0} (P : List ℤ → Type 0) (word : List ℕ) (fields : S → List Field) (later : S → List ℤ → S) → ((state : S) (rest after : Rest) (numbers : List ℤ) → read_record word (fields state) rest ≡ Ok (numbers, after) → P numbers)
    → (state : S) (read : ℕ) (left : List (List (List ℕ))) (records : List (List ℤ)) (after : Rest) → repeated_in word fields later state read left ≡ Ok (records, after) → All P records
repeated-left {S} P word fields later known state read [] records after h =
    let pair : ([], record { read = read; left = [] }) ≡ (records, after) = cc in
    subst (λ (rs : List (List ℤ)). All P rs) (ap (λ (p : List (List ℤ) × Rest). p.0) pair) (All-nil P)
repeated-left {S} P word fields later known state read (next ∷ others) records after h =
    repeated-if P word fields later state read next others (has_word word next) records after (λ numbers rest e. known state record { read = read; left = next ∷ others } rest numbers e)
    (λ s more rest e. repeated-left P word fields later known s (read + 1) others more rest e) h

-- ---- multipliers

get_or-replicate_own : (n i : ℕ) (field : Field) → get_or (replicate n field) i field ≡ field
get_or-replicate_own zero i field = refl
get_or-replicate_own (suc n) zero field = refl
get_or-replicate_own (suc n) (suc i) field = get_or-replicate_own n i field

row-number : (rows count least i : ℕ) (rest after : Rest) (numbers : List ℤ) → i < count → read_record (codes "row") (row_fields rows count least) rest ≡ Ok (numbers, after) → IsWithin (2 ^ 62 - 1) (number_at numbers (suc i))
row-number rows count least i rest after numbers l h =
    let long : length (replicate count any_number) ≡ count = length-replicate count any_number in
    let f = record-field (codes "row") (row_fields rows count least) rest after numbers (suc i) any_number h (omega (arith, long, l)) in
    (in-field 62 (λ _. true) (number_at numbers (suc i)) (lit≤ tt) (subst (λ (field : Field). IsFieldRead field (number_at numbers (suc i))) (get_or-replicate_own count i any_number) f)).small

number_for-within : (place limit : ℕ) (records : List (List ℤ)) (row : ℕ) → All (λ (numbers : List ℤ). IsWithin limit (number_at numbers place)) records → IsWithin limit (number_for place records row)
number_for-within place limit [] row all = IsWithin-zero limit
number_for-within place limit (numbers ∷ others) row all =
    let P : List ℤ → Type 0 = λ (ns : List ℤ). IsWithin limit (number_at ns place) in
    by_test (int_eq (number_at numbers 0) (pos row)) (All-head P numbers others all) (number_for-within place limit others row (All-tail P numbers others all))
  where
    by_test : (b : Bool) → IsWithin limit (number_at numbers place) → IsWithin limit (number_for place others row) → IsWithin limit (number_in place (if b then Some numbers else record_of others row))
    by_test true one more = one
    by_test false one more = more

multipliers-known : (rows count i : ℕ) (rest after : Rest) (records : List (List ℤ)) → i < count → row_records rows count rest ≡ Ok (records, after) → AreMultipliers rows (numbers_for (suc i) rows records)
multipliers-known rows count i rest after records l h =
    let all = repeated-left (λ (ns : List ℤ). IsWithin (2 ^ 62 - 1) (number_at ns (suc i))) (codes "row") (row_fields rows count) after_row
    (λ least r a ns e. row-number rows count least i r a ns l e) 0 rest.read rest.left records after h in
    let long = length-list_to rows (number_for (suc i) records) in
    record {
      one_each = long;
      sizes = record { at = λ k b. rw (get_or-list_to rows (number_for (suc i) records) k (pos 0) (omega (arith, long, b))) (number_for-within (suc i) (2 ^ 62 - 1) records k all) };
    }

pub face-known : (rows : ℕ) (rest after : Rest) (face : List ℤ) → face_of rows rest ≡ Ok (face, after) → AreMultipliers rows face
face-known rows rest after face h =
    let two = in_two (row_records rows 1 rest) _ face after h in
    let pair : (numbers_for 1 rows two.one, two.mid) ≡ (face, after) = cc in
    subst (λ (f : List ℤ). AreMultipliers rows f) (ap (λ (p : List ℤ × Rest). p.0) pair) (multipliers-known rows 1 0 rest two.mid two.one (lit< tt) two.first_is)

denominator-known : (rest after : Rest) (den : ℤ) → bound_denominator rest ≡ Ok (den, after) → IsDenominator den
denominator-known rest after den h =
    let two = in_two (read_record (codes "bound") (denominator_field ∷ []) rest) _ den after h in
    let pair : (number_at two.one 0, two.mid) ≡ (den, after) = cc in
    let field = in-field 62 (int_le (pos 1)) (number_at two.one 0) (lit≤ tt) (record-field (codes "bound") (denominator_field ∷ []) rest two.mid two.one 0 denominator_field two.first_is (lit< tt)) in
    subst IsDenominator (ap (λ (p : ℤ × Rest). p.0) pair) (record { positive = int_le-above (number_at two.one 0) field.passes; size = field.small })

pub bound-known : (rows : ℕ) (rest after : Rest) (bound : Bound) → bound_of rows rest ≡ Ok (bound, after) → IsBoundOver rows bound
bound-known rows rest after bound h =
    let den = in_two (bound_denominator rest) _ bound after h in
    let two = in_two (row_records rows 2 den.mid) _ bound after den.next_is in
    let made : Bound = record { den = den.one; main = numbers_for 2 rows two.one; face = numbers_for 1 rows two.one } in
    let pair : (made, two.mid) ≡ (bound, after) = cc in
    let same : made ≡ bound = ap (λ (p : Bound × Rest). p.0) pair in
    subst (λ (b : Bound). IsBoundOver rows b) same (record {
      den = denominator-known rest den.mid den.one den.first_is;
      main = multipliers-known rows 2 1 den.mid two.mid two.one (lit< tt) two.first_is;
      face = multipliers-known rows 2 0 den.mid two.mid two.one (lit< tt) two.first_is;
    })

-- ---- rays and paths

pub paid-known : (word : List ℕ) (s : GeneralSetting) (rest after : Rest) (pays : List ℤ) → all_payments_of word s s.payments rest ≡ Ok (pays, after) → IsRayFor s pays
paid-known word s rest after pays h = let p = pays-known word s s.payments rest after pays refl h in record { one_each = p.long; sizes = p.small; off = p.off }

pub ray-known : (s : GeneralSetting) (rest after : Rest) (ray : List ℤ) → ray_of s rest ≡ Ok (ray, after) → IsRayFor s ray
ray-known s rest after ray h = paid-known (codes "ray") s rest after ray h

abbrev IsPlaced : Pivot → Type 0
IsPlaced p = IsTablePlace p.row p.column

all-pivots : (records : List (List ℤ)) → All (λ (ns : List ℤ). IsPlaced (pivot_of ns)) records → All IsPlaced (map pivot_of records)
all-pivots [] all = All-nil IsPlaced
all-pivots (ns ∷ records) all =
    let P : List ℤ → Type 0 = λ (ns : List ℤ). IsPlaced (pivot_of ns) in
    All-cons IsPlaced (pivot_of ns) (map pivot_of records) (All-head P ns records all) (all-pivots records (All-tail P ns records all))

pub path-known : (rest after : Rest) (path : List Pivot) → path_of rest ≡ Ok (path, after) → All (λ (p : Pivot). IsTablePlace p.row p.column) path
path-known rest after path h =
    let two = in_two (repeated (codes "pivot") pivot_fields no_change tt rest) _ path after h in
    let all = repeated-left (λ (ns : List ℤ). IsPlaced (pivot_of ns)) (codes "pivot") pivot_fields no_change
    (λ state r a ns e. table-place-known (number_at ns 0) (number_at ns 1) (record-field (codes "pivot") (pivot_fields state) r a ns 0 table_place e (lit< tt)) (record-field (codes "pivot") (pivot_fields state) r a ns 1 table_place e (lit< tt)))
    tt rest.read rest.left two.one two.mid two.first_is in
    let pair : (map pivot_of two.one, two.mid) ≡ (path, after) = cc in
    subst (λ (ps : List Pivot). All IsPlaced ps) (ap (λ (p : List Pivot × Rest). p.0) pair) (all-pivots two.one all)

pub wide-known : (rest after : Rest) (wide : Wide) → wide_of rest ≡ Ok (wide, after) → HasFraction wide × HasWidePlaces wide
wide-known rest after wide h =
    let path = in_two (path_of rest) _ wide after h in
    let entry = in_two (entry_of path.mid) _ wide after path.next_is in
    let made : Wide = record { path = path.one; entry = entry.one } in
    let pair : (made, entry.mid) ≡ (wide, after) = cc in
    let known = entry-known path.mid entry.mid entry.one entry.first_is in
    subst (λ (w : Wide). HasFraction w × HasWidePlaces w) (ap (λ (p : Wide × Rest). p.0) pair) (known.0, (path-known rest path.mid path.one path.first_is, known.1))

-- a second part, where there is one
pub second-known : (version : Version) (rest after : Rest) (second : Option Wide) → second_of version rest ≡ Ok (second, after) → IfSome second HasFraction × IfSome second HasWidePlaces
second-known One rest after second h =
    let none : Option Wide = None in
    let pair : (none, rest) ≡ (second, after) = cc in
    subst (λ (o : Option Wide). IfSome o HasFraction × IfSome o HasWidePlaces) (ap (λ (p : Option Wide × Rest). p.0) pair) (tt, tt)
second-known Two rest after second h =
    let again = in_two (read_record (codes "again") [] rest) _ second after h in
    let wide = in_two (wide_of again.mid) _ second after again.next_is in
    let some : Option Wide = Some wide.one in
    let pair : (some, wide.mid) ≡ (second, after) = cc in
    subst (λ (o : Option Wide). IfSome o HasFraction × IfSome o HasWidePlaces) (ap (λ (p : Option Wide × Rest). p.0) pair) (wide-known again.mid wide.mid wide.one wide.first_is)

-- what is known of a value that was read is known of the value of a call that says so
pub known-of : {X Y : Type 0} (r : Result X Y) (P : X → Type 0) (Q : Y → Type 0) (R : X → Type 0) → MatchResult r P Q → ((x : X) → P x → R x) → IfOk r R
known-of {X} {Y} (Ok x) P Q R h f = f x h
known-of {X} {Y} (Err y) P Q R h f = tt

pub ruleset known = (value-known, face-known, bound-known, paid-known, path-known, entry-known, wide-known, second-known, mechanism-accepted)
