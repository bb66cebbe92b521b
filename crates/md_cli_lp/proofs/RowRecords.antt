-- The names and the records of rows, one after the other.
use Rattle.std.proofs.Common.{◌≡◌, ℕ, zero, suc, ◌+◌, ◌<◌, List, [], ◌∷◌, ◌++◌, length, take, map, Some, refl, sym, ap, ap₂, ◌∙◌, arith, add-one, length-take-le}
use Rattle.std.specs.Prelude.{slice_get}
use Rattle.std.specs.Option.{ForSome}
use Rattle.std.proofs.lemmas.List.{map-append}
use Rattle.md_lp.specs.Program.{Program}
use Rattle.md_cli_lp.specs.ProgramTexts.{row_record, row_records}

pub row_records-push : (p : Program) (r : ℕ) (names : List (List ℕ)) (name : List ℕ) → row_records p r (names ++ name ∷ []) ≡ row_records p r names ++ row_record p (r + length names) name ∷ []
row_records-push p r [] name = ap (λ k. row_record p k name ∷ []) (let e : r ≡ r + 0 = omega arith in e)
row_records-push p r (first ∷ others) name =
    ap (λ xs. row_record p r first ∷ xs)
    (row_records-push p (r + 1) others name
    ∙ ap (λ k. row_records p (r + 1) others ++ row_record p k name ∷ []) (let e : r + 1 + length others ≡ r + length (first ∷ others) = omega arith in e))

-- the element at a place, and the list up to it
pub one_more : {X : Type 0} → (xs : List X) (r : ℕ) → r < length xs → (y : X) × ((slice_get xs r ≡ Some y) × (take (r + 1) xs ≡ take r xs ++ y ∷ []))
one_more xs r b = rw add-one (next xs r b)
  where
    next : {X : Type 0} → (xs : List X) (r : ℕ) → r < length xs → (y : X) × ((slice_get xs r ≡ Some y) × (take (suc r) xs ≡ take r xs ++ y ∷ []))
    next [] r b = absurd (omega arith)
    next (x ∷ xs) zero b = (x, (refl, refl))
    next (x ∷ xs) (suc r) b = let h = next xs r (omega arith) in (h.0, (h.1.0, ap (λ ys. x ∷ ys) h.1.1))

-- the record of one row more
pub row_records-more : (p : Program) (names : List (List ℕ)) (r : ℕ) (name : List ℕ) → r < length names → slice_get names r ≡ Some name
    → row_records p 0 (take (r + 1) names) ≡ row_records p 0 (take r names) ++ row_record p r name ∷ []
row_records-more p names r name b here =
    let at = one_more names r b in
    let same : at.0 ≡ name = (let there = at.1.0 in cc) in
    let size : 0 + length (take r names) ≡ r = omega (arith, length-take-le r names (omega arith)) in
    ap (row_records p 0) at.1.1
    ∙ row_records-push p 0 (take r names) at.0
    ∙ ap₂ (λ k x. row_records p 0 (take r names) ++ row_record p k x ∷ []) size same

-- the name of one condition more
pub names-more : {C : Type 0} → (name_of : C → List ℕ) (conditions : List C) (r : ℕ) (name : List ℕ) → r < length conditions → ForSome (slice_get conditions r) (λ condition. name ≡ name_of condition)
    → map name_of (take (r + 1) conditions) ≡ map name_of (take r conditions) ++ name ∷ []
names-more name_of conditions r name b h =
    let at = one_more conditions r b in
    ap (map name_of) at.1.1
    ∙ map-append name_of (take r conditions) (at.0 ∷ [])
    ∙ ap (λ x. map name_of (take r conditions) ++ x ∷ []) (sym (h at.0 at.1.0))
