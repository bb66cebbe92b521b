-- The rules say one thing of a basis.
use Rattle.std.proofs.Common.{List, [], ◌∷◌, ◌≡◌, ◌⊎◌, ℕ, ◌+◌, ◌<◌, ℤ, pos, ◌-ℤ◌, ◌*ℤ◌, neg_ℤ, ◌≤ℤ◌, ◌<ℤ◌, inl, inr, refl, sym, ap, ap₂, ◌∙◌, subst, arith}
use Rattle.std.proofs.lemmas.Bool.{cases_eq, cases_lt}
use Rattle.md_math.specs.LexOrder.{IsLexNonNegative}
use Rattle.md_math.proofs.Ring.{linear}
use Rattle.md_math.proofs.LexLaws.{lex_cases}
use Rattle.md_lp.specs.declared.pivot.Pivot.{Pivot}
use Rattle.md_dict.specs.Dictionary.{IsScaledDictionary}
use Rattle.md_dict.proofs.Uniqueness.{same_entries}
use Rattle.md_simplex.specs.declared.order.Order.{Order}
use Rattle.md_simplex.specs.declared.order.Order.TheVariants.{Forward, Backward}
use Rattle.md_simplex.specs.declared.step.Step.{Step}
use Rattle.md_simplex.specs.declared.step.Step.TheVariants as steps
use Rattle.md_simplex.specs.Rules.{ComesBefore, IsFirstIn, IsFaceColumn, IsMainColumn, IsFaceOver, IsEntering, key, gap, IsLeaving, HasNoRow, IsInfeasible, IsOptimal, IsNext, HasNext}
use Rattle.md_simplex.specs.Path.{after, IsWholePath, IsEnd}
use Rattle.md_simplex.proofs.PositiveRows.{mix-not_zero, key_in}
use Rattle.md_simplex.proofs.PathLaws.{entering_in}

-- ---- columns

-- of two columns one comes first, or they are the same
order_cases : (order : Order) (a b : ℕ) → ComesBefore order a b ⊎ ((a ≡ b) ⊎ ComesBefore order b a)
order_cases Forward a b = elim (cases_lt a b) [ inl l ↦ inl l | inr l ↦ elim (cases_eq a b) [ inl e ↦ inr (inl e) | inr o ↦ inr (inr (omega arith)) ] ]
order_cases Backward a b = elim (cases_lt a b) [ inl l ↦ inr (inr l) | inr l ↦ elim (cases_eq a b) [ inl e ↦ inr (inl e) | inr o ↦ inl (omega arith) ] ]

same_first : (order : Order) (n : ℕ) (P : ℕ → Type 0) (a b : ℕ) → IsFirstIn order n P a → IsFirstIn order n P b → a ≡ b
same_first order n P a b h k = elim (order_cases order a b) [
  | inl l ↦ absurd (k.others a h.inside l h.holds)
  | inr (inl e) ↦ e
  | inr (inr l) ↦ absurd (h.others b k.inside l k.holds)
]

-- a face column excludes that the face is over
face_not_over : (m n : ℕ) (e : ℕ → ℕ → ℤ) (c : ℕ) → c < n → IsFaceColumn m e c → ((j : ℕ) → j < n → pos 0 ≤ℤ e m j) → ⊥
face_not_over m n e c b l h = (let above : pos 0 ≤ℤ e m c = h c b in omega (arith, linear))

same_entering : (order : Order) (m n : ℕ) (e : ℕ → ℕ → ℤ) (a b : ℕ) → IsEntering order m n e a → IsEntering order m n e b → a ≡ b
same_entering order m n e a b (inl h) (inl k) = same_first order n (IsFaceColumn m e) a b h k
same_entering order m n e a b (inl h) (inr k) = absurd (face_not_over m n e a h.inside h.holds k.0.columns)
same_entering order m n e a b (inr h) (inl k) = absurd (face_not_over m n e b k.inside k.holds h.0.columns)
same_entering order m n e a b (inr h) (inr k) = same_first order n (IsMainColumn m e) a b h.1 k.1

entering_not_infeasible : (order : Order) (m n : ℕ) (e : ℕ → ℕ → ℤ) (c : ℕ) → IsEntering order m n e c → IsInfeasible m n e → ⊥
entering_not_infeasible order m n e c (inl h) k = face_not_over m n e c h.inside h.holds k.columns
entering_not_infeasible order m n e c (inr h) k = (let a : pos 0 ≤ℤ e m (n + m) = h.0.right in let b : e m (n + m) <ℤ pos 0 = k.right in omega (arith, linear))

entering_not_optimal : (order : Order) (m n : ℕ) (e : ℕ → ℕ → ℤ) (c : ℕ) → IsEntering order m n e c → IsOptimal m n e → ⊥
entering_not_optimal order m n e c (inl h) k = face_not_over m n e c h.inside h.holds k.face.columns
entering_not_optimal order m n e c (inr h) k = k.main c h.1.inside h.1.holds

infeasible_not_optimal : (m n : ℕ) (e : ℕ → ℕ → ℤ) → IsInfeasible m n e → IsOptimal m n e → ⊥
infeasible_not_optimal m n e h k = (let a : e m (n + m) <ℤ pos 0 = h.right in let b : pos 0 ≤ℤ e m (n + m) = k.face.right in omega (arith, linear))

-- ---- rows

leaving_not_none : (m n : ℕ) (e : ℕ → ℕ → ℤ) (c r : ℕ) → IsLeaving m n e c r → HasNoRow m e c → ⊥
leaving_not_none m n e c r h k = (let a : pos 0 <ℤ e r c = h.positive in let b : e r c ≤ℤ pos 0 = k.none r h.inside in omega (arith, linear))

-- a list that is neither negative nor positive is 0
both_zero : (n : ℕ) (f g : ℕ → ℤ) → ((k : ℕ) → g k ≡ neg_ℤ (f k)) → IsLexNonNegative n f → IsLexNonNegative n g → (k : ℕ) → k < n → f k ≡ pos 0
both_zero n f g turn h k = elim (lex_cases n f) [
  | inl zeros ↦ zeros
  | inr (inl p) ↦
      let above : pos 0 <ℤ f p.place = p.positive in
      let back : pos 0 ≤ℤ g p.place = k.at p.place p.inside (λ j b. (let e : f j ≡ pos 0 = p.before j b in let u = turn j in omega (arith, linear))) in
      let u = turn p.place in
      absurd (omega (arith, linear))
  | inr (inr p) ↦
      let above : pos 0 <ℤ neg_ℤ (f p.place) = p.positive in
      let back : pos 0 ≤ℤ f p.place = h.at p.place p.inside (λ j b. (let e : neg_ℤ (f j) ≡ pos 0 = p.before j b in omega (arith, linear))) in
      absurd (omega (arith, linear))
]

same_leaving : (m n : ℕ) (t : ℕ → ℕ → ℤ) (basis : ℕ → ℕ) (d : ℤ) (e : ℕ → ℕ → ℤ) → IsScaledDictionary m n t basis d e → (c r s : ℕ) → IsLeaving m n e c r → IsLeaving m n e c s → r ≡ s
same_leaving m n t basis d e scaled c r s h k = elim (cases_eq r s) [
  | inl same ↦ same
  | inr o ↦
      let zeros = both_zero (m + 1) (gap m n e c s r) (gap m n e c r s) (λ i. turn (e r c) (e s c) (e s (key m n i)) (e r (key m n i))) (h.least s k.inside k.positive) (k.least r h.inside h.positive) in
      absurd (mix-not_zero m n t basis d e scaled s r k.inside h.inside (e r c) (e s c) (λ f. o (sym f)) h.positive zeros)
]
  where
    turn : (x y u v : ℤ) → y *ℤ v -ℤ x *ℤ u ≡ neg_ℤ (x *ℤ u -ℤ y *ℤ v)
    turn x y u v = omega (arith, linear)

-- ---- steps

abbrev make_pivot : ℕ → ℕ → Pivot
make_pivot row column = record { row = row; column = column }

same_pivot : (p q : Pivot) → p.row ≡ q.row → p.column ≡ q.column → p ≡ q
same_pivot p q r c = ap₂ make_pivot r c

-- the rules say one thing of a table
pub one_next_of : (order : Order) (m n : ℕ) (t : ℕ → ℕ → ℤ) (basis : ℕ → ℕ) (d : ℤ) (e : ℕ → ℕ → ℤ) → IsScaledDictionary m n t basis d e → (a b : Step) → IsNext order m n e a → IsNext order m n e b → a ≡ b
one_next_of order m n t basis d e scaled (steps.Pivot p) (steps.Pivot q) h k =
    let column : p.column ≡ q.column = same_entering order m n e p.column q.column h.0 k.0 in
    let leaving : IsLeaving m n e p.column q.row = subst (λ c. IsLeaving m n e c q.row) (sym column) k.1 in
    ap steps.Pivot (same_pivot p q (same_leaving m n t basis d e scaled p.column p.row q.row h.1 leaving) column)
one_next_of order m n t basis d e scaled (steps.Pivot p) steps.Infeasible h k = absurd (entering_not_infeasible order m n e p.column h.0 k)
one_next_of order m n t basis d e scaled (steps.Pivot p) steps.Optimal h k = absurd (entering_not_optimal order m n e p.column h.0 k)
one_next_of order m n t basis d e scaled (steps.Pivot p) (steps.Unbounded c) h k =
    let column : p.column ≡ c = same_entering order m n e p.column c h.0 k.0 in
    absurd (leaving_not_none m n e p.column p.row h.1 (subst (λ c. HasNoRow m e c) (sym column) k.1))
one_next_of order m n t basis d e scaled steps.Infeasible (steps.Pivot p) h k = absurd (entering_not_infeasible order m n e p.column k.0 h)
one_next_of order m n t basis d e scaled steps.Infeasible steps.Infeasible h k = refl
one_next_of order m n t basis d e scaled steps.Infeasible steps.Optimal h k = absurd (infeasible_not_optimal m n e h k)
one_next_of order m n t basis d e scaled steps.Infeasible (steps.Unbounded c) h k = absurd (entering_not_infeasible order m n e c k.0 h)
one_next_of order m n t basis d e scaled steps.Optimal (steps.Pivot p) h k = absurd (entering_not_optimal order m n e p.column k.0 h)
one_next_of order m n t basis d e scaled steps.Optimal steps.Infeasible h k = absurd (infeasible_not_optimal m n e k h)
one_next_of order m n t basis d e scaled steps.Optimal steps.Optimal h k = refl
one_next_of order m n t basis d e scaled steps.Optimal (steps.Unbounded c) h k = absurd (entering_not_optimal order m n e c k.0 h)
one_next_of order m n t basis d e scaled (steps.Unbounded c) (steps.Pivot p) h k =
    let column : p.column ≡ c = same_entering order m n e p.column c k.0 h.0 in
    absurd (leaving_not_none m n e p.column p.row k.1 (subst (λ c. HasNoRow m e c) (sym column) h.1))
one_next_of order m n t basis d e scaled (steps.Unbounded c) steps.Infeasible h k = absurd (entering_not_infeasible order m n e c h.0 k)
one_next_of order m n t basis d e scaled (steps.Unbounded c) steps.Optimal h k = absurd (entering_not_optimal order m n e c h.0 k)
one_next_of order m n t basis d e scaled (steps.Unbounded c) (steps.Unbounded b) h k = ap steps.Unbounded (same_entering order m n e c b h.0 k.0)

-- ---- two tables with the same entries

module _ (m n : ℕ) (e f : ℕ → ℕ → ℤ) (same : (r j : ℕ) → r < m + 2 → j < n + m + 1 → e r j ≡ f r j) where
  at_column : (r j : ℕ) → r < m + 2 → j < n → e r j ≡ f r j
  at_column r j a b = same r j a (omega arith)

  face_over : IsFaceOver m n e → IsFaceOver m n f
  face_over h = record {
    columns = λ j b. (let s : e m j ≡ f m j = at_column m j (omega arith) b in let p : pos 0 ≤ℤ e m j = h.columns j b in omega (arith, linear));
    right = (let s : e m (n + m) ≡ f m (n + m) = same m (n + m) (omega arith) (omega arith) in let p : pos 0 ≤ℤ e m (n + m) = h.right in omega (arith, linear));
  }

  face_column : (j : ℕ) → j < n → IsFaceColumn m e j → IsFaceColumn m f j
  face_column j b h = (let s : e m j ≡ f m j = at_column m j (omega arith) b in omega (arith, linear))

  main_column : (j : ℕ) → j < n → IsMainColumn m e j → IsMainColumn m f j
  main_column j b h =
      let s : e m j ≡ f m j = at_column m j (omega arith) b in
      let u : e (m + 1) j ≡ f (m + 1) j = at_column (m + 1) j (omega arith) b in
      let p : e m j ≡ pos 0 = h.0 in
      let q : e (m + 1) j <ℤ pos 0 = h.1 in
      (omega (arith, linear), omega (arith, linear))

  no_row : (c : ℕ) → c < n → HasNoRow m e c → HasNoRow m f c
  no_row c b h = record { none = λ i a. (let s : e i c ≡ f i c = at_column i c (omega arith) b in let p : e i c ≤ℤ pos 0 = h.none i a in omega (arith, linear)) }

  gap-same : (c i r k : ℕ) → c < n → i < m → r < m → k < m + 1 → gap m n e c i r k ≡ gap m n f c i r k
  gap-same c i r k b p q l =
      ap₂ (λ x y. x -ℤ y)
      (ap₂ (λ x y. x *ℤ y) (at_column r c (omega arith) b) (same i (key m n k) (omega arith) (key_in m n k l)))
      (ap₂ (λ x y. x *ℤ y) (at_column i c (omega arith) b) (same r (key m n k) (omega arith) (key_in m n k l)))

module _ (m n : ℕ) (e f : ℕ → ℕ → ℤ) (same : (r j : ℕ) → r < m + 2 → j < n + m + 1 → e r j ≡ f r j) where
  turned : (r j : ℕ) → r < m + 2 → j < n + m + 1 → f r j ≡ e r j
  turned r j a b = sym (same r j a b)

  first_face : (order : Order) (c : ℕ) → IsFirstIn order n (IsFaceColumn m e) c → IsFirstIn order n (IsFaceColumn m f) c
  first_face order c h = record { inside = h.inside; holds = face_column m n e f same c h.inside h.holds; others = λ j b l k. h.others j b l (face_column m n f e turned j b k) }

  first_main : (order : Order) (c : ℕ) → IsFirstIn order n (IsMainColumn m e) c → IsFirstIn order n (IsMainColumn m f) c
  first_main order c h = record { inside = h.inside; holds = main_column m n e f same c h.inside h.holds; others = λ j b l k. h.others j b l (main_column m n f e turned j b k) }

  entering : (order : Order) (c : ℕ) → IsEntering order m n e c → IsEntering order m n f c
  entering order c (inl h) = inl (first_face order c h)
  entering order c (inr h) = inr (face_over m n e f same h.0, first_main order c h.1)

  leaving : (c r : ℕ) → c < n → IsLeaving m n e c r → IsLeaving m n f c r
  leaving c r b h = record {
    inside = h.inside;
    positive = (let s : e r c ≡ f r c = at_column m n e f same r c (let a : r < m = h.inside in omega arith) b in let p : pos 0 <ℤ e r c = h.positive in omega (arith, linear));
    least = λ i a p. record {
      at = λ k l zeros.
          let s : gap m n e c i r k ≡ gap m n f c i r k = gap-same m n e f same c i r k b a h.inside l in
          let back : e i c ≡ f i c = at_column m n e f same i c (omega arith) b in
          let q : pos 0 ≤ℤ gap m n e c i r k = (h.least i a (omega (arith, linear))).at k l (λ j d. gap-same m n e f same c i r j b a h.inside (omega arith) ∙ zeros j d) in
          omega (arith, linear);
    };
  }

  pub IsNext-same : (order : Order) (s : Step) → IsNext order m n e s → IsNext order m n f s
  IsNext-same order (steps.Pivot p) h = (entering order p.column h.0, leaving p.column p.row (entering_in order m n e p.column h.0) h.1)
  IsNext-same order steps.Infeasible h = record {
    columns = λ j b. (let s : e m j ≡ f m j = at_column m n e f same m j (omega arith) b in let p : pos 0 ≤ℤ e m j = h.columns j b in omega (arith, linear));
    right = (let s : e m (n + m) ≡ f m (n + m) = same m (n + m) (omega arith) (omega arith) in let p : e m (n + m) <ℤ pos 0 = h.right in omega (arith, linear));
  }
  IsNext-same order steps.Optimal h = record { face = face_over m n e f same h.face; main = λ j b k. h.main j b (main_column m n f e turned j b k) }
  IsNext-same order (steps.Unbounded c) h = (entering order c h.0, no_row m n e f same c (entering_in order m n e c h.0) h.1)

-- the rules say one thing of a basis
pub one_next : (order : Order) (m n : ℕ) (t : ℕ → ℕ → ℤ) (basis : ℕ → ℕ) (a b : Step) → HasNext order m n t basis a → HasNext order m n t basis b → a ≡ b
one_next order m n t basis a b h k =
    one_next_of order m n t basis k.den k.table k.dictionary.scaled a b
    (IsNext-same m n h.table k.table (same_entries m n t basis h.den k.den h.table k.table h.dictionary k.dictionary) order a h.next) k.next

-- ---- paths

pub no_end : (p : Pivot) (s : Step) → s ≡ steps.Pivot p → IsEnd s → ⊥
no_end p (steps.Pivot q) e h = h
no_end p steps.Infeasible e h = cc
no_end p steps.Optimal e h = cc
no_end p (steps.Unbounded c) e h = cc

abbrev pub pivot_of : Step → Pivot → Pivot
pivot_of (steps.Pivot p) q = p
pivot_of steps.Infeasible q = q
pivot_of steps.Optimal q = q
pivot_of (steps.Unbounded c) q = q

-- a basis has one whole path
pub one_path : (order : Order) (m n : ℕ) (t : ℕ → ℕ → ℤ) (basis : ℕ → ℕ) (ps qs : List Pivot) (a b : Step) → IsWholePath order m n t basis ps a → IsWholePath order m n t basis qs b → (ps ≡ qs) × (a ≡ b)
one_path order m n t basis [] [] a b h k = (refl, one_next order m n t basis a b h.last k.last)
one_path order m n t basis [] (q ∷ qs) a b h k = absurd (no_end q a (one_next order m n t basis a (steps.Pivot q) h.last k.path.0) h.ends)
one_path order m n t basis (p ∷ ps) [] a b h k = absurd (no_end p b (one_next order m n t basis b (steps.Pivot p) k.last h.path.0) k.ends)
one_path order m n t basis (p ∷ ps) (q ∷ qs) a b h k =
    let first : p ≡ q = ap (λ s. pivot_of s p) (one_next order m n t basis (steps.Pivot p) (steps.Pivot q) h.path.0 k.path.0) in
    let rest_k : IsWholePath order m n t (after basis q) qs b = record { path = k.path.1; last = k.last; ends = k.ends } in
    let rest : (ps ≡ qs) × (a ≡ b) =
    one_path order m n t (after basis p) ps qs a b (record { path = h.path.1; last = h.last; ends = h.ends }) (subst (λ r. IsWholePath order m n t (after basis r) qs b) (sym first) rest_k) in
    (ap₂ (λ x xs. x ∷ xs) first rest.0, rest.1)
