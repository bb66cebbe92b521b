-- Cuts that are written are read as the same sets.
use Rattle.std.proofs.Common.{◌≡◌, ◌≢◌, ℕ, zero, suc, ◌+◌, ◌<◌, ◌≤◌, ◌^◌, ℤ, pos, Bool, true, false, not, nat_eq, List, [], ◌∷◌, ◌++◌, map, length, codes, Ok, refl, sym, ap, subst, ◌∙◌, arith, All, append_assoc, length-append, lit≤}
use Rattle.std.specs.Prelude.{slice_index}
use Rattle.std.specs.List.{list_any}
use Rattle.std.proofs.lemmas.Bool.Decides.{nat_tests}
use Rattle.std.proofs.lemmas.Int.{ints}
use Rattle.std.proofs.Math.Pow.{pow_mono}
use Rattle.std.proofs.lemmas.List.Elements.{All-nil, All-cons}
use Rattle.std.proofs.lemmas.List.{length-map}
use Rattle.md_num.specs.WholeText.{text_of}
use Rattle.md_parts.specs.Fields.{is_place, is_free_place, free_place_field}
use Rattle.md_parts.specs.Repeated.{comes_next, repeated}
use Rattle.md_lp.specs.Cuts.{AreCuts}
use Rattle.md_parts.specs.Cuts.{cut_fields, set_of, with_cut, cuts_of}
use Rattle.md_parts.specs.Rows.{number_row, cut_row, cut_rows}
use Rattle.md_parts.specs.Written.{Holds, IsWrittenBefore}
use Rattle.md_parts.proofs.WrittenRecords.{holds-none, holds-cons, number_field-holds}
use Rattle.md_parts.proofs.WrittenRows.{HoldFrom, repeated-written}
use Rattle.md_parts.proofs.WrittenTables.{written-as}

abbrev Rows : Type 0
Rows = List (List (List ℕ))

abbrev cut_numbers : ℕ → List ℤ
cut_numbers set = pos set ∷ []

cut_rows-as : (sets : List ℕ) → map (number_row (codes "cut")) (map cut_numbers sets) ≡ cut_rows sets
cut_rows-as [] = refl
cut_rows-as (set ∷ sets) = ap (λ (l : Rows). cut_row set ∷ l) (cut_rows-as sets)

sets-of : (sets : List ℕ) → map set_of (map cut_numbers sets) ≡ sets
sets-of [] = refl
sets-of (set ∷ sets) = ap (λ (l : List ℕ). set ∷ l) (sets-of sets)

-- a set that none of others is
same-not : (a b : ℕ) → b ≢ a → nat_eq a b ≡ false
same-not a b h = by_test (nat_eq a b) refl
  where
    same : nat_eq a b ≡ true → b ≡ a
    same e = grind (arith, nat_tests)

    by_test : (t : Bool) → nat_eq a b ≡ t → t ≡ false
    by_test true e = absurd (h (same e))
    by_test false e = refl

absent-test : (set : ℕ) (before : List ℕ) → ((j : ℕ) → j < length before → slice_index before j ≢ set) → not (list_any (nat_eq set) before) ≡ true
absent-test set [] h = refl
absent-test set (first ∷ before) h = rw (same-not set first (h 0 (omega arith))) (absent-test set before (λ j l. h (suc j) (omega arith)))

place-inside : (below set : ℕ) → 1 ≤ set → set < below → is_place 1 below (pos set) ≡ true
place-inside below set l m = grind (arith, ints)

power-few : (kinds : ℕ) → kinds ≤ 12 → 2 ^ kinds ≤ 2 ^ 12
power-few kinds l = pow_mono l

cut-holds : (kinds set : ℕ) (before : List ℕ) → kinds ≤ 12 → 1 ≤ set → set < 2 ^ kinds → ((j : ℕ) → j < length before → slice_index before j ≢ set)
    → Holds (cut_fields kinds before) (text_of (pos set) ∷ []) (pos set ∷ [])
cut-holds kinds set before few some inside absent =
    let small = power-few kinds few in
    let passes : is_free_place 1 (2 ^ kinds) before (pos set) ≡ true = rw (place-inside (2 ^ kinds) set some inside) (absent-test set before absent) in
    holds-cons (free_place_field 1 (2 ^ kinds) before) [] (text_of (pos set)) [] (pos set) []
    (number_field-holds 62 (is_free_place 1 (2 ^ kinds) before) (pos set) (lit≤ tt) (record { passes = passes; small = record { within = omega (arith, small, inside) } })) holds-none

-- the sets from a place on, behind those before it
middle : (before : List ℕ) (set : ℕ) (sets : List ℕ) → slice_index (before ++ set ∷ sets) (length before) ≡ set
middle [] set sets = refl
middle (first ∷ before) set sets = middle before set sets

front : (before more : List ℕ) (j : ℕ) → j < length before → slice_index (before ++ more) j ≡ slice_index before j
front [] more j l = absurd (omega arith)
front (first ∷ before) more zero l = refl
front (first ∷ before) more (suc j) l = front before more j (omega arith)

cuts-hold : (kinds : ℕ) (all before sets : List ℕ) → kinds ≤ 12 → AreCuts kinds all → all ≡ before ++ sets → HoldFrom (cut_fields kinds) with_cut before (map cut_numbers sets)
cuts-hold kinds all before [] few h e = tt
cuts-hold kinds all before (set ∷ sets) few h e =
    let place = length before in
    let long : place < length all = let l = length-append before (set ∷ sets) in let m = ap length e in omega (arith, l, m) in
    let at : slice_index all place ≡ set = ap (λ (xs : List ℕ). slice_index xs place) e ∙ middle before set sets in
    let absent : (j : ℕ) → j < length before → slice_index before j ≢ set =
    λ j l same. h.distinct j place l long (ap (λ (xs : List ℕ). slice_index xs j) e ∙ front before (set ∷ sets) j l ∙ same ∙ sym at) in (
      cut-holds kinds set before few (rw at at (h.some place long)) (rw at at (h.inside place long)) absent,
      cuts-hold kinds all (before ++ set ∷ []) sets few h (e ∙ sym (append_assoc before (set ∷ []) sets)),
    )

pub cuts-written : (sets : List ℕ) (kinds : ℕ) (others : Rows) → kinds ≤ 12 → AreCuts kinds sets → comes_next (codes "cut") others ≡ false → IsWrittenBefore others (cuts_of kinds) (cut_rows sets) sets
cuts-written sets kinds others few h ends =
    let records = map cut_numbers sets in
    subst (λ (found : List ℕ). IsWrittenBefore others (cuts_of kinds) (cut_rows sets) found) (sets-of sets)
    (written-as others (repeated (codes "cut") (cut_fields kinds) with_cut []) (λ rs. map set_of rs) (cut_rows sets) records
    (subst (λ (l : Rows). IsWrittenBefore others (repeated (codes "cut") (cut_fields kinds) with_cut []) l records) (cut_rows-as sets) (record {
      read = λ n.
          repeated-written (codes "cut") (cut_fields kinds) with_cut [] records n others (cuts-hold kinds sets [] sets few h refl) ends
          ∙ ap (λ (k : ℕ). Ok (records, record { read = n + k; left = others })) (sym (length-map records (number_row (codes "cut"))));
    })))

-- no record is empty
pub cuts-some : (sets : List ℕ) → All (λ (row : List (List ℕ)). 0 < length row) (cut_rows sets)
cuts-some [] = All-nil (λ (row : List (List ℕ)). 0 < length row)
cuts-some (set ∷ sets) = All-cons (λ (row : List (List ℕ)). 0 < length row) (cut_row set) (cut_rows sets) (omega arith) (cuts-some sets)

pub ruleset laws = (cuts-written)
