-- Functions of values, step by step: sums by parts, and the most that truthful bidders pay (Myerson 1981).
use Rattle.std.proofs.Common.{◌≡◌, ℕ, zero, suc, ◌<◌, ℤ, pos, ◌+ℤ◌, ◌-ℤ◌, ◌*ℤ◌, ◌≤ℤ◌, ◌<ℤ◌, refl, sym, ap, ◌∙◌, arith}
use Rattle.md_math.specs.Sums.{sum_to}
use Rattle.md_math.proofs.Order.{nonneg_from_*ℤ}
use Rattle.md_math.proofs.Ring.{linear, ring, *ℤ-+ℤ}
use Rattle.md_math.proofs.SumLaws.{sum_to-same, sum_to-+ℤ, sum_to-*ℤ}
use Rattle.md_list.specs.Rule.{step_of, pay_by}

-- ---- sums by parts

-- the steps up to a value add up to the function there
pub steps-add : (q : ℕ → ℤ) (m : ℕ) → sum_to (suc m) (step_of q) ≡ q m
steps-add q zero = omega (arith, linear)
steps-add q (suc m) = omega (arith, linear, steps-add q m)

-- a sum of products: what is left of the first factor from each value on, times the steps of the second
pub by-parts : (f q : ℕ → ℤ) (m : ℕ) → sum_to m (λ v. f v *ℤ q v) ≡ sum_to m (λ x. (sum_to m f -ℤ sum_to x f) *ℤ step_of q x)
by-parts f q zero = refl
by-parts f q (suc m) =
    let all = sum_to m f in
    let more : sum_to m (λ x. ((all +ℤ f m) -ℤ sum_to x f) *ℤ step_of q x) ≡ sum_to m (λ x. (all -ℤ sum_to x f) *ℤ step_of q x) +ℤ f m *ℤ sum_to m (step_of q) =
    sum_to-same m _ (λ x. (all -ℤ sum_to x f) *ℤ step_of q x +ℤ f m *ℤ step_of q x) (λ x b. parts all (f m) (sum_to x f) (step_of q x))
    ∙ sum_to-+ℤ m (λ x. (all -ℤ sum_to x f) *ℤ step_of q x) (λ x. f m *ℤ step_of q x)
    ∙ ap (λ z. sum_to m (λ x. (all -ℤ sum_to x f) *ℤ step_of q x) +ℤ z) (sum_to-*ℤ m (f m) (step_of q)) in
    let last : ((all +ℤ f m) -ℤ all) *ℤ step_of q m ≡ f m *ℤ step_of q m = ap (λ z. z *ℤ step_of q m) (left all (f m)) in
    let whole : f m *ℤ q m ≡ f m *ℤ sum_to m (step_of q) +ℤ f m *ℤ step_of q m = ap (λ z. f m *ℤ z) (sym (steps-add q m)) ∙ *ℤ-+ℤ (f m) (sum_to m (step_of q)) (step_of q m) in
    omega (arith, linear, by-parts f q m, more, last, whole)
  where
    parts : (a b c s : ℤ) → ((a +ℤ b) -ℤ c) *ℤ s ≡ (a -ℤ c) *ℤ s +ℤ b *ℤ s
    parts a b c s = simp ring (omega (arith, linear))

    left : (a b : ℤ) → (a +ℤ b) -ℤ a ≡ b
    left a b = omega (arith, linear)

-- ---- payments

-- Payments by weight, where each unit costs the least value with which it is had, as a sum over amounts; `from` is the weight of
-- a value and of all above it.
pub paid-by_parts : (value weight from q : ℕ → ℤ) (m : ℕ) → ((v : ℕ) → weight v ≡ from v -ℤ from (suc v))
    → sum_to m (λ v. (value v *ℤ from v -ℤ value (suc v) *ℤ from (suc v)) *ℤ q v)
    ≡ sum_to m (λ v. weight v *ℤ pay_by value q v) +ℤ from m *ℤ (sum_to m (λ x. value x *ℤ step_of q x) -ℤ value m *ℤ (q m -ℤ step_of q m))
paid-by_parts value weight from q zero e = none (from 0) (value 0) (q 0)
  where
    none : (t v q : ℤ) → pos 0 ≡ pos 0 +ℤ t *ℤ (pos 0 -ℤ v *ℤ (q -ℤ q))
    none t v q = simp ring (omega (arith, linear))
paid-by_parts value weight from q (suc m) e =
    step (sum_to m (λ v. (value v *ℤ from v -ℤ value (suc v) *ℤ from (suc v)) *ℤ q v)) (sum_to m (λ v. weight v *ℤ pay_by value q v)) (value m) (value (suc m)) (from m) (from (suc m)) (weight m)
    (q m) (step_of q m) (q (suc m)) (sum_to m (λ x. value x *ℤ step_of q x)) (e m) (paid-by_parts value weight from q m e)
  where
    parts : (a vm vn tm tn qm sm qn r : ℤ)
        → (a +ℤ tm *ℤ (r -ℤ vm *ℤ (qm -ℤ sm))) +ℤ (vm *ℤ tm -ℤ vn *ℤ tn) *ℤ qm ≡ (a +ℤ (tm -ℤ tn) *ℤ (r +ℤ vm *ℤ sm)) +ℤ tn *ℤ ((r +ℤ vm *ℤ sm) -ℤ vn *ℤ (qn -ℤ (qn -ℤ qm)))
    parts a vm vn tm tn qm sm qn r = simp ring (omega (arith, linear))

    step : (l a vm vn tm tn w qm sm qn r : ℤ) → w ≡ tm -ℤ tn → l ≡ a +ℤ tm *ℤ (r -ℤ vm *ℤ (qm -ℤ sm))
        → l +ℤ (vm *ℤ tm -ℤ vn *ℤ tn) *ℤ qm ≡ (a +ℤ w *ℤ (r +ℤ vm *ℤ sm)) +ℤ tn *ℤ ((r +ℤ vm *ℤ sm) -ℤ vn *ℤ (qn -ℤ (qn -ℤ qm)))
    step l a vm vn tm tn w qm sm qn r e d = rw (e, d) (parts a vm vn tm tn qm sm qn r)

-- the most that a bidder pays on average that is truthful and takes part
pub paid-at_most : (value q p : ℕ → ℤ) (m : ℕ) → p 0 ≤ℤ (value 0 *ℤ q 0) → ((v : ℕ) → suc v < m → (p (suc v) -ℤ p v) ≤ℤ (value (suc v) *ℤ (q (suc v) -ℤ q v)))
    → (v : ℕ) → v < m → p v ≤ℤ pay_by value q v
paid-at_most value q p m first next zero b = omega (arith, linear, first)
paid-at_most value q p m first next (suc v) b = omega (arith, linear, next v b, paid-at_most value q p m first next v (omega (arith, b)))

-- truth for two values, the second one higher: amounts do not fall
pub rises : (lower upper q r p s : ℤ) → lower <ℤ upper → (lower *ℤ r -ℤ s) ≤ℤ (lower *ℤ q -ℤ p) → (upper *ℤ q -ℤ p) ≤ℤ (upper *ℤ r -ℤ s) → pos 0 ≤ℤ (r -ℤ q)
rises lower upper q r p s up h k = nonneg_from_*ℤ (upper -ℤ lower) (r -ℤ q) (omega (arith, linear, up)) (omega (arith, linear, h, k, parts lower upper q r))
  where
    parts : (a b q r : ℤ) → (b -ℤ a) *ℤ (r -ℤ q) ≡ (b *ℤ r -ℤ b *ℤ q) -ℤ (a *ℤ r -ℤ a *ℤ q)
    parts a b q r = simp ring (omega (arith, linear))
