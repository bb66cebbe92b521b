-- The laws of a path: its rows stay positive, its cost rows rise, and no basis stands twice in it.
use Rattle.std.proofs.Common.{◌≡◌, ℕ, ◌+◌, ◌<◌, ℤ, List, [], ◌∷◌, ◌++◌, inl, inr, refl, sym, arith}
use Rattle.md_math.proofs.LexLaws.{IsLexPositive-same}
use Rattle.md_lp.specs.declared.pivot.Pivot.{Pivot}
use Rattle.md_dict.specs.Dictionary.{IsDictionary}
use Rattle.md_dict.proofs.Cancelling.{IsDictionary-same_basis}
use Rattle.md_dict.proofs.Uniqueness.{same_entries}
use Rattle.md_simplex.specs.declared.order.Order.{Order}
use Rattle.md_simplex.specs.declared.step.Step.TheVariants as steps
use Rattle.md_simplex.specs.Rules.{key, IsEntering, HasNext}
use Rattle.md_simplex.specs.Path.{after, basis_after, IsPathFrom}
use Rattle.md_simplex.proofs.Pivoted.{IsPivoted}
use Rattle.md_simplex.proofs.PositiveRows.{HasPositiveRows, HasPositiveRows-pivoted, key_in}
use Rattle.md_simplex.proofs.Rise.{Rises, Rises-pivoted, Rises_trans, Rises-never}

-- an entering column is one of the program and slack columns
pub entering_in : (order : Order) (m n : ℕ) (e : ℕ → ℕ → ℤ) (column : ℕ) → IsEntering order m n e column → column < n
entering_in order m n e column (inl first) = first.inside
entering_in order m n e column (inr rest) = rest.1.inside

module _ (order : Order) (m n : ℕ) (t : ℕ → ℕ → ℤ) where
  -- each dictionary of the basis has positive rows
  pub record IsPositiveBasis (basis : ℕ → ℕ) : Type 0 where
    pub rows : (d : ℤ) (e : ℕ → ℕ → ℤ) → IsDictionary m n t basis d e → HasPositiveRows m n e

  -- one such dictionary is enough, since a basis has no other
  pub IsPositiveBasis-from : (basis : ℕ → ℕ) (d : ℤ) (e : ℕ → ℕ → ℤ) → IsDictionary m n t basis d e → HasPositiveRows m n e → IsPositiveBasis basis
  IsPositiveBasis-from basis d e p h = record {
    rows = λ g f q. record {
      rows = λ i a. IsLexPositive-same (m + 1) (λ k. e i (key m n k)) (λ k. f i (key m n k)) (λ k b. same_entries m n t basis d g e f p q i (key m n k) (omega arith) (key_in m n k b)) (h.rows i a);
    };
  }

  -- the pivot of a basis, with any dictionary of the next one
  pub pivoted : (basis : ℕ → ℕ) (p : Pivot) (next : HasNext order m n t basis (steps.Pivot p)) (g : ℤ) (w : ℕ → ℕ → ℤ) → IsDictionary m n t (after basis p) g w → IsPivoted m n t basis next.den next.table g w p.row p.column
  pivoted basis p next g w new = record {
    old = next.dictionary;
    row_in = next.next.1.inside;
    column_in = entering_in order m n next.table p.column next.next.0;
    positive = next.next.1.positive;
    new = new;
  }

  pub IsPositiveBasis-after : (basis : ℕ → ℕ) (p : Pivot) → IsPositiveBasis basis → HasNext order m n t basis (steps.Pivot p) → IsPositiveBasis (after basis p)
  IsPositiveBasis-after basis p h next = record {
    rows = λ g w new. HasPositiveRows-pivoted m n t basis next.den next.table g w p.row p.column (pivoted basis p next g w new) (h.rows next.den next.table next.dictionary) next.next.1;
  }

  -- one pivot makes the cost rows rise
  pub Rises-after : (basis : ℕ → ℕ) (p : Pivot) → IsPositiveBasis basis → (next : HasNext order m n t basis (steps.Pivot p)) (g : ℤ) (w : ℕ → ℕ → ℤ) → IsDictionary m n t (after basis p) g w → Rises m n next.den next.table g w
  Rises-after basis p h next g w new =
      Rises-pivoted m n t basis next.den next.table g w p.row p.column (pivoted basis p next g w new) order next.next.0 (h.rows next.den next.table next.dictionary)

  -- so do one or more
  pub Rises-path : (basis : ℕ → ℕ) (p : Pivot) (pivots : List Pivot) → IsPositiveBasis basis → (path : IsPathFrom order m n t basis (p ∷ pivots)) (g : ℤ) (w : ℕ → ℕ → ℤ) → IsDictionary m n t (basis_after basis (p ∷ pivots)) g w → Rises m n path.0.den path.0.table g w
  Rises-path basis p [] h path g w last = Rises-after basis p h path.0 g w last
  Rises-path basis p (q ∷ pivots) h path g w last =
      let next = path.1.0 in
      Rises_trans m n path.0.den path.0.table next.den next.table g w path.0.dictionary.scaled.positive next.dictionary.scaled.positive last.scaled.positive
      (Rises-after basis p h path.0 next.den next.table next.dictionary)
      (Rises-path (after basis p) q pivots (IsPositiveBasis-after basis p h path.0) path.1 g w last)

  -- ---- parts of a path

  pub path_from : (basis : ℕ → ℕ) (before rest : List Pivot) → IsPathFrom order m n t basis (before ++ rest) → IsPathFrom order m n t (basis_after basis before) rest
  path_from basis [] rest path = path
  path_from basis (p ∷ before) rest path = path_from (after basis p) before rest path.1

  pub path_to : (basis : ℕ → ℕ) (before rest : List Pivot) → IsPathFrom order m n t basis (before ++ rest) → IsPathFrom order m n t basis before
  path_to basis [] rest path = tt
  path_to basis (p ∷ before) rest path = (path.0, path_to (after basis p) before rest path.1)

  pub path_more : (basis : ℕ → ℕ) (pivots : List Pivot) (p : Pivot) → IsPathFrom order m n t basis pivots → HasNext order m n t (basis_after basis pivots) (steps.Pivot p) → IsPathFrom order m n t basis (pivots ++ p ∷ [])
  path_more basis [] p path next = (next, tt)
  path_more basis (q ∷ pivots) p path next = (path.0, path_more (after basis q) pivots p path.1 next)

  pub basis_after-append : (basis : ℕ → ℕ) (before rest : List Pivot) → basis_after basis (before ++ rest) ≡ basis_after (basis_after basis before) rest
  basis_after-append basis [] rest = refl
  basis_after-append basis (p ∷ before) rest = basis_after-append (after basis p) before rest

  pub IsPositiveBasis-path : (basis : ℕ → ℕ) (pivots : List Pivot) → IsPositiveBasis basis → IsPathFrom order m n t basis pivots → IsPositiveBasis (basis_after basis pivots)
  IsPositiveBasis-path basis [] h path = h
  IsPositiveBasis-path basis (p ∷ pivots) h path = IsPositiveBasis-path (after basis p) pivots (IsPositiveBasis-after basis p h path.0) path.1

  -- ---- no basis stands twice

  pub no_return : (basis : ℕ → ℕ) (p : Pivot) (pivots : List Pivot) → IsPositiveBasis basis → IsPathFrom order m n t basis (p ∷ pivots) → ((i : ℕ) → i < m → basis_after basis (p ∷ pivots) i ≡ basis i) → ⊥
  no_return basis p pivots h path same =
      let again : IsDictionary m n t (basis_after basis (p ∷ pivots)) path.0.den path.0.table =
      IsDictionary-same_basis m n t basis (basis_after basis (p ∷ pivots)) path.0.den path.0.table (λ i a. sym (same i a)) path.0.dictionary in
      Rises-never m n path.0.den path.0.table (Rises-path basis p pivots h path path.0.den path.0.table again)

  -- two places of a path, with at least one pivot between them, have different bases
  pub no_basis_twice : (basis : ℕ → ℕ) (before : List Pivot) (p : Pivot) (between after_them : List Pivot) → IsPositiveBasis basis → IsPathFrom order m n t basis (before ++ (p ∷ between ++ after_them)) → ((i : ℕ) → i < m → basis_after (basis_after basis before) (p ∷ between) i ≡ basis_after basis before i) → ⊥
  no_basis_twice basis before p between after_them h path same =
      no_return (basis_after basis before) p between
      (IsPositiveBasis-path basis before h (path_to basis before (p ∷ between ++ after_them) path))
      (path_to (basis_after basis before) (p ∷ between) after_them (path_from basis before (p ∷ between ++ after_them) path))
      same
