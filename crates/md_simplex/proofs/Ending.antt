-- Each path from a basis with a dictionary and positive rows ends: no basis stands twice, and there are finitely many.
use Rattle.std.proofs.Common.{◌≡◌, ℕ, zero, suc, ◌+◌, ◌<◌, ◌≤◌, ℤ, List, [], ◌∷◌, ◌++◌, length, Bool, true, false, inl, inr, refl, sym, subst, arith, ne_eqb, ◌||◌}
use Rattle.std.specs.List.{AllByRecursion, IsDistinct, list_any}
use Rattle.std.proofs.Math.Dec.{eqb}
use Rattle.std.proofs.lemmas.Bool.{cases_eq, false≢true}
use Rattle.std.proofs.lemmas.List.{length_push}
use Rattle.std.proofs.lemmas.Map.Steps.{length-le_from_distinct_below}
use Rattle.md_lp.specs.declared.pivot.Pivot.{Pivot}
use Rattle.md_dict.specs.Dictionary.{IsDictionary}
use Rattle.md_dict.proofs.Cancelling.{IsDictionary-same_basis}
use Rattle.md_simplex.specs.declared.order.Order.{Order}
use Rattle.md_simplex.specs.declared.step.Step.{Step}
use Rattle.md_simplex.specs.declared.step.Step.TheVariants as steps
use Rattle.md_simplex.specs.Rules.{HasNext}
use Rattle.md_simplex.specs.Path.{after, basis_after, IsPathFrom, PathEnds}
use Rattle.md_simplex.proofs.Rise.{Rises, Rises_trans, Rises-never}
use Rattle.md_simplex.proofs.PathLaws.{IsPositiveBasis, IsPositiveBasis-after, Rises-after, path_more, basis_after-append}
use Rattle.md_simplex.proofs.NextLaws.{has_next}
use Rattle.md_simplex.proofs.NextBasis.{HasDictionary, HasDictionary-after}
use Rattle.md_simplex.proofs.Codes.{code, code_count, code_below, code_same}

module _ (order : Order) (m n : ℕ) (t : ℕ → ℕ → ℤ) where
  -- the bases of a path but the last, as numbers
  visited : (ℕ → ℕ) → List Pivot → List ℕ
  visited basis [] = []
  visited basis (p ∷ pivots) = code (n + m) m basis ∷ visited (after basis p) pivots

  length-visited : (basis : ℕ → ℕ) (pivots : List Pivot) → length (visited basis pivots) ≡ length pivots
  unfolding visited
  length-visited basis [] = refl
  length-visited basis (p ∷ pivots) = (let e : length (visited (after basis p) pivots) ≡ length pivots = length-visited (after basis p) pivots in omega (arith, e))

  -- ---- each is below the number of all

  below_or : (x q limit : ℕ) (rest : Bool) → x < limit → (rest ≡ true → q < limit) → (eqb q x || rest) ≡ true → q < limit
  below_or x q limit rest a b e = elim (cases_eq q x) [
    | inl same ↦ omega arith
    | inr o ↦ b (let no : eqb q x ≡ false = ne_eqb q x o in rw no at e)
  ]

  visited_below : (basis : ℕ → ℕ) (pivots : List Pivot) → IsPathFrom order m n t basis pivots → (q : ℕ) → list_any (eqb q) (visited basis pivots) ≡ true → q < code_count (n + m) m
  unfolding visited
  visited_below basis [] path q e = absurd (false≢true e)
  visited_below basis (p ∷ pivots) path q e =
      below_or (code (n + m) m basis) q (code_count (n + m) m) (list_any (eqb q) (visited (after basis p) pivots))
      (code_below (n + m) m basis (λ i a. path.0.dictionary.scaled.columns i a))
      (λ h. visited_below (after basis p) pivots path.1 q h) e

  -- ---- no two are the same

  -- each dictionary of the basis rises above this one
  record IsAbove (d : ℤ) (e : ℕ → ℕ → ℤ) (basis : ℕ → ℕ) : Type 0 where
    rises : (g : ℤ) (w : ℕ → ℕ → ℤ) → IsDictionary m n t basis g w → Rises m n d e g w

  IsAbove-after : (d : ℤ) (e : ℕ → ℕ → ℤ) (start basis : ℕ → ℕ) (p : Pivot) → IsDictionary m n t start d e → IsPositiveBasis order m n t basis → HasNext order m n t basis (steps.Pivot p) → IsAbove d e basis → IsAbove d e (after basis p)
  IsAbove-after d e start basis p h positive next above = record {
    rises = λ g w new.
        Rises_trans m n d e next.den next.table g w h.scaled.positive next.dictionary.scaled.positive new.scaled.positive
        (above.rises next.den next.table next.dictionary) (Rises-after order m n t basis p positive next g w new);
  }

  not_same : (d : ℤ) (e : ℕ → ℕ → ℤ) (start basis : ℕ → ℕ) (g : ℤ) (w : ℕ → ℕ → ℤ) → IsDictionary m n t start d e → IsDictionary m n t basis g w → IsAbove d e basis → code (n + m) m start ≡ code (n + m) m basis → ⊥
  not_same d e start basis g w h k above same =
      Rises-never m n d e (above.rises d e
      (IsDictionary-same_basis m n t start basis d e (code_same (n + m) m start basis (λ i a. h.scaled.columns i a) (λ i a. k.scaled.columns i a) same) h))

  not_again : (d : ℤ) (e : ℕ → ℕ → ℤ) (start basis : ℕ → ℕ) (pivots : List Pivot) → IsDictionary m n t start d e → IsAbove d e basis → IsPositiveBasis order m n t basis → IsPathFrom order m n t basis pivots → AllByRecursion (λ y. eqb (code (n + m) m start) y ≡ false) (visited basis pivots)
  unfolding visited
  not_again d e start basis [] h above positive path = tt
  not_again d e start basis (p ∷ pivots) h above positive path = (
    ne_eqb (code (n + m) m start) (code (n + m) m basis) (λ same. not_same d e start basis path.0.den path.0.table h path.0.dictionary above same),
    not_again d e start (after basis p) pivots h (IsAbove-after d e start basis p h positive path.0 above) (IsPositiveBasis-after order m n t basis p positive path.0) path.1,
  )

  visited_distinct : (basis : ℕ → ℕ) (pivots : List Pivot) → IsPositiveBasis order m n t basis → IsPathFrom order m n t basis pivots → IsDistinct eqb (visited basis pivots)
  unfolding visited IsDistinct
  visited_distinct basis [] positive path = tt
  visited_distinct basis (p ∷ pivots) positive path = (
    not_again path.0.den path.0.table basis (after basis p) pivots path.0.dictionary
        (record { rises = λ g w new. Rises-after order m n t basis p positive path.0 g w new })
        (IsPositiveBasis-after order m n t basis p positive path.0) path.1,
    visited_distinct (after basis p) pivots (IsPositiveBasis-after order m n t basis p positive path.0) path.1,
  )

  -- so a path has no more pivots than there are numbers
  pub path_length : (basis : ℕ → ℕ) (pivots : List Pivot) → IsPositiveBasis order m n t basis → IsPathFrom order m n t basis pivots → length pivots ≤ code_count (n + m) m
  path_length basis pivots positive path =
      let most : length (visited basis pivots) ≤ code_count (n + m) m =
      length-le_from_distinct_below (visited basis pivots) (code_count (n + m) m) (visited_distinct basis pivots positive path) (visited_below basis pivots path) in
      let same : length (visited basis pivots) ≡ length pivots = length-visited basis pivots in
      omega (arith, most, same)

  -- ---- and so it ends

  -- a step that is no pivot ends the path
  end_or_more : (basis : ℕ → ℕ) (before : List Pivot) → IsPathFrom order m n t basis before → (step : Step) → HasNext order m n t (basis_after basis before) step → ((p : Pivot) → HasNext order m n t (basis_after basis before) (steps.Pivot p) → PathEnds order m n t basis) → PathEnds order m n t basis
  end_or_more basis before path (steps.Pivot p) next more = more p next
  end_or_more basis before path steps.Infeasible next more = record { pivots = before; step = steps.Infeasible; whole = record { path = path; last = next; ends = tt } }
  end_or_more basis before path steps.Optimal next more = record { pivots = before; step = steps.Optimal; whole = record { path = path; last = next; ends = tt } }
  end_or_more basis before path (steps.Unbounded c) next more = record { pivots = before; step = steps.Unbounded c; whole = record { path = path; last = next; ends = tt } }

  -- with so many pivots more there are too many
  ends_by : (fuel : ℕ) (basis : ℕ → ℕ) (before : List Pivot) → IsPositiveBasis order m n t basis → IsPathFrom order m n t basis before → HasDictionary m n t (basis_after basis before) → code_count (n + m) m < length before + fuel → PathEnds order m n t basis
  ends_by zero basis before positive path has l = absurd (let most : length before ≤ code_count (n + m) m = path_length basis before positive path in omega (arith, most, l))
  ends_by (suc fuel) basis before positive path has l =
      let (step, next) = has_next order m n t (basis_after basis before) has.den has.table has.dictionary in
      end_or_more basis before path step next
      (λ p h.
      ends_by fuel basis (before ++ p ∷ []) positive (path_more order m n t basis before p path h)
      (subst (HasDictionary m n t) (sym (basis_after-append order m n t basis before (p ∷ []))) (HasDictionary-after order m n t (basis_after basis before) p h))
      (omega (arith, length_push before p, l)))

  pub path_ends : (basis : ℕ → ℕ) → IsPositiveBasis order m n t basis → HasDictionary m n t basis → PathEnds order m n t basis
  path_ends basis positive has = ends_by (suc (code_count (n + m) m)) basis [] positive tt has (omega arith)
