-- A path has at most one first wide basis, and where it has one, not all of its bases are narrow.
use Rattle.std.proofs.Common.{◌≡◌, ℕ, ◌<◌, ℤ, List, [], ◌∷◌, inl, inr, refl, sym, ap, ap₂, ◌∙◌, subst, arith}
use Rattle.std.proofs.lemmas.Bool.{cases_lt}
use Rattle.md_math.specs.Sizes.{IsWithin}
use Rattle.md_math.proofs.SizeLaws.{not_above}
use Rattle.md_lp.specs.declared.pivot.Pivot.{Pivot}
use Rattle.md_lp.specs.declared.entry.Entry.{Entry}
use Rattle.md_dict.specs.Wide.{IsWideBasis}
use Rattle.md_dict.proofs.Uniqueness.{same_dens, same_entries}
use Rattle.md_simplex.specs.declared.order.Order.{Order}
use Rattle.md_simplex.specs.declared.step.Step.{Step}
use Rattle.md_simplex.specs.declared.step.Step.TheVariants as steps
use Rattle.md_simplex.specs.Path.{AllBefore, IsFirstWideBasis, IsNarrowBasis, IsPathFrom, IsWholePath, after, basis_after}
use Rattle.md_simplex.proofs.OneNext.{no_end, one_next, pivot_of}

abbrev make_entry : ℕ → ℕ → ℤ → ℤ → Entry
make_entry row column num den = record { row = row; column = column; num = num; den = den }

module _ (m n : ℕ) (t : ℕ → ℕ → ℤ) (limit : ℕ) where
  -- ---- one basis

  narrow_not_wide : (basis : ℕ → ℕ) (entry : Entry) → IsNarrowBasis m n t basis limit → IsWideBasis m n t basis limit entry → ⊥
  narrow_not_wide basis entry h k =
      not_above limit (h.table entry.row entry.column) entry.num
      (same_entries m n t basis h.den k.den h.table k.table h.dictionary k.dictionary entry.row entry.column k.first.row_in k.first.column_in ∙ sym k.first.num_is)
      (h.narrow.entries entry.row entry.column k.first.row_in k.first.column_in) k.first.wide

  -- the entry of one is not before that of the other
  row_not_before : (basis : ℕ → ℕ) (a b : Entry) → IsWideBasis m n t basis limit a → IsWideBasis m n t basis limit b → a.row < b.row → ⊥
  row_not_before basis a b h k l =
      not_above limit (k.table a.row a.column) a.num
      (same_entries m n t basis k.den h.den k.table h.table k.dictionary h.dictionary a.row a.column h.first.row_in h.first.column_in ∙ sym h.first.num_is)
      (k.first.rows_before a.row a.column l h.first.column_in) h.first.wide

  column_not_before : (basis : ℕ → ℕ) (a b : Entry) → IsWideBasis m n t basis limit a → IsWideBasis m n t basis limit b → a.row ≡ b.row → a.column < b.column → ⊥
  column_not_before basis a b h k e l =
      not_above limit (k.table a.row a.column) a.num
      (same_entries m n t basis k.den h.den k.table h.table k.dictionary h.dictionary a.row a.column h.first.row_in h.first.column_in ∙ sym h.first.num_is)
      (subst (λ r. IsWithin limit (k.table r a.column)) (sym e) (k.first.columns_before a.column l)) h.first.wide

  same_row : (basis : ℕ → ℕ) (a b : Entry) → IsWideBasis m n t basis limit a → IsWideBasis m n t basis limit b → a.row ≡ b.row
  same_row basis a b h k = elim (cases_lt a.row b.row) [
    | inl l ↦ absurd (row_not_before basis a b h k l)
    | inr l ↦ elim (cases_lt b.row a.row) [ inl g ↦ absurd (row_not_before basis b a k h g) | inr g ↦ omega arith ]
  ]

  same_column : (basis : ℕ → ℕ) (a b : Entry) → IsWideBasis m n t basis limit a → IsWideBasis m n t basis limit b → a.column ≡ b.column
  same_column basis a b h k = elim (cases_lt a.column b.column) [
    | inl l ↦ absurd (column_not_before basis a b h k (same_row basis a b h k) l)
    | inr l ↦ elim (cases_lt b.column a.column) [ inl g ↦ absurd (column_not_before basis b a k h (sym (same_row basis a b h k)) g) | inr g ↦ omega arith ]
  ]

  pub one_wide_entry : (basis : ℕ → ℕ) (a b : Entry) → IsWideBasis m n t basis limit a → IsWideBasis m n t basis limit b → a ≡ b
  one_wide_entry basis a b h k =
      let rows : a.row ≡ b.row = same_row basis a b h k in
      let columns : a.column ≡ b.column = same_column basis a b h k in
      let tables : h.table a.row a.column ≡ k.table a.row a.column = same_entries m n t basis h.den k.den h.table k.table h.dictionary k.dictionary a.row a.column h.first.row_in h.first.column_in in
      let nums : a.num ≡ b.num = h.first.num_is ∙ tables ∙ ap₂ k.table rows columns ∙ sym k.first.num_is in
      let dens : a.den ≡ b.den = h.first.den_is ∙ same_dens m n t basis h.den k.den h.table k.table h.dictionary k.dictionary ∙ sym k.first.den_is in
      ap₂ (λ r c. make_entry r c a.num a.den) rows columns ∙ ap₂ (λ x d. make_entry b.row b.column x d) nums dens

  module _ (order : Order) where
    -- the rules give two next pivots of a basis only where they are the same
    same_next : (basis : ℕ → ℕ) (p q : Pivot) (ps qs : List Pivot) → IsPathFrom order m n t basis (p ∷ ps) → IsPathFrom order m n t basis (q ∷ qs) → p ≡ q
    same_next basis p q ps qs h k = ap (λ s. pivot_of s p) (one_next order m n t basis (steps.Pivot p) (steps.Pivot q) h.0 k.0)

    -- ---- not both

    pub record IsWholeNarrow (basis : ℕ → ℕ) (pivots : List Pivot) (step : Step) : Type 0 where
      pub whole : IsWholePath order m n t basis pivots step
      pub before : AllBefore (λ b. IsNarrowBasis m n t b limit) basis pivots
      pub last : IsNarrowBasis m n t (basis_after basis pivots) limit

    -- pivots of a path that lead to a wide basis
    pub record LeadsToWide (basis : ℕ → ℕ) (pivots : List Pivot) (entry : Entry) : Type 0 where
      pub path : IsPathFrom order m n t basis pivots
      pub wide : IsWideBasis m n t (basis_after basis pivots) limit entry

    pub not_both : (basis : ℕ → ℕ) (ps qs : List Pivot) (step : Step) (entry : Entry) → IsWholeNarrow basis ps step → LeadsToWide basis qs entry → ⊥
    not_both basis [] [] step entry h k = narrow_not_wide basis entry h.last k.wide
    not_both basis [] (q ∷ qs) step entry h k = no_end q step (one_next order m n t basis step (steps.Pivot q) h.whole.last k.path.0) h.whole.ends
    not_both basis (p ∷ ps) [] step entry h k = narrow_not_wide basis entry h.before.0 k.wide
    not_both basis (p ∷ ps) (q ∷ qs) step entry h k =
        let same : p ≡ q = same_next basis p q ps qs h.whole.path k.path in
        let rest : LeadsToWide (after basis q) qs entry = record { path = k.path.1; wide = k.wide } in
        not_both (after basis p) ps qs step entry
        (record { whole = record { path = h.whole.path.1; last = h.whole.last; ends = h.whole.ends }; before = h.before.1; last = h.last })
        (subst (λ r. LeadsToWide (after basis r) qs entry) (sym same) rest)

    -- ---- only one

    pub one_wide_path : (basis : ℕ → ℕ) (ps qs : List Pivot) (a b : Entry) → IsFirstWideBasis order m n t basis limit ps a → IsFirstWideBasis order m n t basis limit qs b → (ps ≡ qs) × (a ≡ b)
    one_wide_path basis [] [] a b h k = (refl, one_wide_entry basis a b h.wide k.wide)
    one_wide_path basis [] (q ∷ qs) a b h k = absurd (narrow_not_wide basis a k.narrow.0 h.wide)
    one_wide_path basis (p ∷ ps) [] a b h k = absurd (narrow_not_wide basis b h.narrow.0 k.wide)
    one_wide_path basis (p ∷ ps) (q ∷ qs) a b h k =
        let same : p ≡ q = same_next basis p q ps qs h.path k.path in
        let rest_k : IsFirstWideBasis order m n t (after basis q) limit qs b = record { path = k.path.1; narrow = k.narrow.1; wide = k.wide } in
        let rest : (ps ≡ qs) × (a ≡ b) =
        one_wide_path (after basis p) ps qs a b (record { path = h.path.1; narrow = h.narrow.1; wide = h.wide })
        (subst (λ r. IsFirstWideBasis order m n t (after basis r) limit qs b) (sym same) rest_k) in
        (ap₂ (λ x xs. x ∷ xs) same rest.0, rest.1)
