-- The records of shadows that are written are read as the same shadows.
use Rattle.std.proofs.Common.{◌≡◌, ◌≢◌, ℕ, zero, suc, ◌+◌, ◌<◌, ◌≤◌, ◌^◌, ℤ, pos, ◌≤ℤ◌, int_le, true, false, List, [], ◌∷◌, ◌++◌, map, length, codes, get_or, Option, None, Some, Ok, refl, sym, ap, subst, ◌∙◌, arith, All, add-zero, append-nil, append_assoc, lit≤, inl, inr}
use Rattle.std.proofs.lemmas.Bool.{cases_lt}
use Rattle.std.proofs.lemmas.Int.{ints}
use Rattle.std.proofs.lemmas.List.{length-map}
use Rattle.std.proofs.lemmas.List.Elements.{All-nil, All-cons}
use Rattle.md_math.specs.Lists.{up_to}
use Rattle.md_math.specs.Sizes.{IsWithin}
use Rattle.md_math.proofs.Builders.{All-up_to, list_to-get_or, list_to-same, map-up_to, up_to-same}
use Rattle.md_num.specs.WholeText.{text_of}
use Rattle.md_num.specs.declared.frac.Frac.{Frac}
use Rattle.md_mech.specs.Accepted.{number_limit}
use Rattle.md_parts.specs.Fields.{any_number, denominator_field, is_place, place_field}
use Rattle.md_parts.specs.Multipliers.{after_row, record_of}
use Rattle.md_parts.specs.Repeated.{comes_next, has_word}
use Rattle.md_parts.specs.Rows.{number_row}
use Rattle.md_parts.specs.Written.{Holds, IsWrittenBefore}
use Rattle.md_parts.proofs.Spread.{int_eq-other, int_eq-own}
use Rattle.md_parts.proofs.WrittenParts.{IsSome}
use Rattle.md_parts.proofs.WrittenRecords.{holds-cons, holds-none, number_field-holds}
use Rattle.md_parts.proofs.WrittenRows.{HoldFrom, place-holds, repeated-written}
use Rattle.md_parts.proofs.WrittenTables.{written-as}
use Rattle.md_conditions_text.specs.Kinds.{kind_of}
use Rattle.md_require_text.specs.RequiredRows.{shadow_row, shadow_rows}
use Rattle.md_require_text.specs.RequiredText.{shadow_fields, shadow_in, shadow_records, shadows_for, shadows_of}
use Rattle.md_require_text.specs.Told.{AreShadowsFor, IsFractionIfTold, IsShadowFraction}

abbrev Rows : Type 0
Rows = List (List (List ℕ))

-- ---- the records

-- the numbers of the record of a shadow, where it is told
abbrev numbers_if_told : ℕ → Option Frac → List (List ℤ)
numbers_if_told index None = []
numbers_if_told index (Some shadow) = (pos index ∷ shadow.num ∷ shadow.den ∷ []) ∷ []

abbrev each_of : (ℕ → Option Frac) → ℕ → List (List ℤ)
each_of f index = numbers_if_told index (f index)

-- from one condition on, so many
abbrev records_from : ℕ → ℕ → (ℕ → Option Frac) → List (List ℤ)
records_from index zero f = []
records_from index (suc n) f = each_of f index ++ records_from (suc index) n f

up_to-from : (index n : ℕ) (f : ℕ → Option Frac) → up_to index (each_of f) ++ records_from index n f ≡ up_to (index + n) (each_of f)
up_to-from index zero f = rw (add-zero index) (append-nil (up_to index (each_of f)))
up_to-from index (suc n) f =
    let e : suc index + n ≡ index + suc n = omega arith in
    sym (append_assoc (up_to index (each_of f)) (each_of f index) (records_from (suc index) n f)) ∙ up_to-from (suc index) n f ∙ ap (λ (k : ℕ). up_to k (each_of f)) e

all-from : (n : ℕ) (f : ℕ → Option Frac) → up_to n (each_of f) ≡ records_from 0 n f
all-from n f = let e : 0 + n ≡ n = omega arith in sym (up_to-from 0 n f ∙ ap (λ (k : ℕ). up_to k (each_of f)) e)

row-of : (index : ℕ) (shadow : Option Frac) → map (number_row (codes "shadow")) (numbers_if_told index shadow) ≡ shadow_row index shadow
row-of index None = refl
row-of index (Some shadow) = refl

rows-written : (n : ℕ) (f : ℕ → Option Frac) → up_to n (λ k. shadow_row k (f k)) ≡ map (number_row (codes "shadow")) (records_from 0 n f)
rows-written n f =
    sym (ap (map (number_row (codes "shadow"))) (sym (all-from n f)) ∙ map-up_to (number_row (codes "shadow")) n (each_of f)
    ∙ up_to-same n (λ k. map (number_row (codes "shadow")) (each_of f k)) (λ k. shadow_row k (f k)) (λ k l. row-of k (f k)))

-- ---- they hold what their fields may

any-held : (z : ℤ) → IsWithin number_limit z → any_number (text_of z) ≡ Some z
any-held z h = number_field-holds 62 (λ _. true) z (lit≤ tt) (record { passes = refl; small = h })

true-int_le : (a z : ℤ) → a ≤ℤ z → int_le a z ≡ true
true-int_le a z h = grind (arith, ints)

denominator-held : (z : ℤ) → pos 1 ≤ℤ z → IsWithin number_limit z → denominator_field (text_of z) ≡ Some z
denominator-held z l h = number_field-holds 62 (int_le (pos 1)) z (lit≤ tt) (record { passes = true-int_le (pos 1) z l; small = h })

shadow-holds : (count least index : ℕ) (shadow : Frac) → least ≤ index → index < count → count ≤ 2 ^ 32 → IsShadowFraction shadow
    → Holds (shadow_fields count least) (text_of (pos index) ∷ text_of shadow.num ∷ text_of shadow.den ∷ []) (pos index ∷ shadow.num ∷ shadow.den ∷ [])
shadow-holds count least index shadow l m few h =
    holds-cons (place_field least count) (any_number ∷ denominator_field ∷ []) (text_of (pos index)) (text_of shadow.num ∷ text_of shadow.den ∷ []) (pos index) (shadow.num ∷ shadow.den ∷ [])
    (number_field-holds 62 (is_place least count) (pos index) (lit≤ tt) (place-holds least count index l m few))
    (holds-cons any_number (denominator_field ∷ []) (text_of shadow.num) (text_of shadow.den ∷ []) shadow.num (shadow.den ∷ []) (any-held shadow.num h.num_size)
    (holds-cons denominator_field [] (text_of shadow.den) [] shadow.den [] (denominator-held shadow.den h.positive h.den_size) holds-none))

hold-one : (count index least : ℕ) (shadow : Option Frac) (others : List (List ℤ)) → IsFractionIfTold shadow → least ≤ index → index < count → count ≤ 2 ^ 32
    → ((k : ℕ) → k ≤ suc index → HoldFrom (shadow_fields count) after_row k others) → HoldFrom (shadow_fields count) after_row least (numbers_if_told index shadow ++ others)
hold-one count index least None others h l m few more = more least (omega arith)
hold-one count index least (Some shadow) others h l m few more = (shadow-holds count least index shadow l m few h, more (index + 1) (omega arith))

hold-from : (count index n least : ℕ) (f : ℕ → Option Frac) → ((k : ℕ) → k < count → IsFractionIfTold (f k)) → least ≤ index → index + n ≤ count → count ≤ 2 ^ 32
    → HoldFrom (shadow_fields count) after_row least (records_from index n f)
hold-from count index zero least f each l m few = tt
hold-from count index (suc n) least f each l m few =
    hold-one count index least (f index) (records_from (suc index) n f) (each index (omega arith)) l (omega arith) few
    (λ k b. hold-from count (suc index) n k f each b (omega arith) few)

-- ---- what they say of each condition

skip-one : (index other : ℕ) (shadow : Option Frac) (others : List (List ℤ)) → index ≢ other → record_of (numbers_if_told index shadow ++ others) other ≡ record_of others other
skip-one index other None others ne = refl
skip-one index other (Some shadow) others ne = rw (int_eq-other index other ne) refl

own-one : (index : ℕ) (shadow : Option Frac) (others : List (List ℤ)) → record_of others index ≡ None → shadow_in (record_of (numbers_if_told index shadow ++ others) index) ≡ shadow
own-one index None others absent = rw absent refl
own-one index (Some shadow) others absent = rw (int_eq-own index) refl

absent-before : (index n other : ℕ) (f : ℕ → Option Frac) → other < index → record_of (records_from index n f) other ≡ None
absent-before index zero other f l = refl
absent-before index (suc n) other f l =
    skip-one index other (f index) (records_from (suc index) n f) (omega arith) ∙ absent-before (suc index) n other f (omega arith)

said-from : (index n other : ℕ) (f : ℕ → Option Frac) → index ≤ other → other < index + n → shadow_in (record_of (records_from index n f) other) ≡ f other
said-from index zero other f l m = absurd (omega arith)
said-from index (suc n) other f l m =
    elim (cases_lt index other) [
      | inl b ↦ ap shadow_in (skip-one index other (f index) (records_from (suc index) n f) (omega arith)) ∙ said-from (suc index) n other f (omega arith) (omega arith)
      | inr b ↦
          let same : index ≡ other = omega arith in
          subst (λ (k : ℕ). shadow_in (record_of (each_of f index ++ records_from (suc index) n f) k) ≡ f k) same
          (own-one index (f index) (records_from (suc index) n f) (absent-before (suc index) n index f (omega arith)))
    ]

-- ---- all

abbrev shadow_at : List (Option Frac) → ℕ → Option Frac
shadow_at shadows k = get_or shadows k None

said-all : (shadows : List (Option Frac)) → shadows_for (length shadows) (records_from 0 (length shadows) (shadow_at shadows)) ≡ shadows
said-all shadows =
    let n = length shadows in
    list_to-same n (λ k. shadow_in (record_of (records_from 0 n (shadow_at shadows)) k)) (shadow_at shadows) (λ k l. said-from 0 n k (shadow_at shadows) (omega arith) (omega (arith, l)))
    ∙ list_to-get_or shadows None

records-read : (shadows : List (Option Frac)) (others : Rows) → All IsFractionIfTold shadows → length shadows ≤ 2 ^ 32 → comes_next (codes "shadow") others ≡ false
    → IsWrittenBefore others (shadow_records (length shadows)) (shadow_rows shadows) (records_from 0 (length shadows) (shadow_at shadows))
records-read shadows others all few ends =
    let count = length shadows in
    let records = records_from 0 count (shadow_at shadows) in
    subst (λ (l : Rows). IsWrittenBefore others (shadow_records count) l records) (sym (rows-written count (shadow_at shadows))) (record {
      read = λ n.
          repeated-written (codes "shadow") (shadow_fields count) after_row 0 records n others (hold-from count 0 count 0 (shadow_at shadows) (λ k l. all k None l) (omega arith) (omega arith) few) ends
          ∙ ap (λ (k : ℕ). Ok (records, record { read = n + k; left = others })) (sym (length-map records (number_row (codes "shadow"))));
    })

pub shadows-written : (shadows : List (Option Frac)) (count : ℕ) (others : Rows) → AreShadowsFor count shadows → count ≤ 1000 → comes_next (codes "shadow") others ≡ false → IsWrittenBefore others (shadows_of count) (shadow_rows shadows) shadows
shadows-written shadows count others h few ends =
    let n = length shadows in
    let long = h.one_each in
    subst (λ (m : ℕ). IsWrittenBefore others (shadows_of m) (shadow_rows shadows) shadows) long
    (subst (λ (l : List (Option Frac)). IsWrittenBefore others (shadows_of n) (shadow_rows shadows) l) (said-all shadows)
    (written-as others (shadow_records n) (λ records. shadows_for n records) (shadow_rows shadows) (records_from 0 n (shadow_at shadows))
    (records-read shadows others h.each (omega (arith, few, long)) ends)))

-- ---- each of them

one-some : (index : ℕ) (shadow : Option Frac) → All IsSome (shadow_row index shadow)
one-some index None = All-nil IsSome
one-some index (Some shadow) = All-cons IsSome (number_row (codes "shadow") (pos index ∷ shadow.num ∷ shadow.den ∷ [])) [] (omega arith) (All-nil IsSome)

pub shadows-some : (shadows : List (Option Frac)) → All IsSome (shadow_rows shadows)
shadows-some shadows = All-up_to IsSome (length shadows) (λ k. shadow_row k (shadow_at shadows k)) (λ k l. one-some k (shadow_at shadows k))

-- they are no records of rows
abbrev pub IsNoRow : List (List ℕ) → Type 0
IsNoRow row = has_word (codes "row") row ≡ false

one-no_row : (index : ℕ) (shadow : Option Frac) → All IsNoRow (shadow_row index shadow)
one-no_row index None = All-nil IsNoRow
one-no_row index (Some shadow) = All-cons IsNoRow (number_row (codes "shadow") (pos index ∷ shadow.num ∷ shadow.den ∷ [])) [] refl (All-nil IsNoRow)

pub shadows-no_row : (shadows : List (Option Frac)) → All IsNoRow (shadow_rows shadows)
shadows-no_row shadows = All-up_to IsNoRow (length shadows) (λ k. shadow_row k (shadow_at shadows k)) (λ k l. one-no_row k (shadow_at shadows k))

-- and none of conditions
abbrev pub IsOther : List (List ℕ) → Type 0
IsOther row = kind_of row ≡ None

one-other : (index : ℕ) (shadow : Option Frac) → All IsOther (shadow_row index shadow)
one-other index None = All-nil IsOther
one-other index (Some shadow) = All-cons IsOther (number_row (codes "shadow") (pos index ∷ shadow.num ∷ shadow.den ∷ [])) [] refl (All-nil IsOther)

pub shadows-other : (shadows : List (Option Frac)) → All IsOther (shadow_rows shadows)
shadows-other shadows = All-up_to IsOther (length shadows) (λ k. shadow_row k (shadow_at shadows k)) (λ k l. one-other k (shadow_at shadows k))
