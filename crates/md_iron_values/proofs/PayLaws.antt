-- Payments that make it best to tell the true value.
use Rattle.std.proofs.Common.{◌≡◌, ℕ, zero, suc, ◌<◌, ◌≤◌, ℤ, pos, ◌+ℤ◌, ◌-ℤ◌, ◌*ℤ◌, ◌≤ℤ◌, inl, inr, refl, ap, subst, ◌∙◌, arith}
use Rattle.std.proofs.lemmas.Bool.{cases_lt}
use Rattle.md_math.proofs.Ring.{linear, ring, *ℤ-zero}
use Rattle.md_math.proofs.Order.{nonneg-*ℤ, ≤ℤ_trans}
use Rattle.md_iron_values.specs.Odds.{pay_by}

-- a function of places that never falls
pub ascends : (n : ℕ) (g : ℕ → ℤ) → ((j : ℕ) → suc j < n → g j ≤ℤ g (suc j)) → (a b : ℕ) → a ≤ b → b < n → g a ≤ℤ g b
ascends n g up a zero l b =
    let same : 0 ≡ a = omega (arith, l) in
    subst (λ m. g m ≤ℤ g 0) same (omega (arith, linear))
ascends n g up a (suc b) l h = elim (cases_lt a (suc b)) [
  | inl k ↦ ≤ℤ_trans (g a) (g b) (g (suc b)) (ascends n g up a b (omega (arith, k)) (omega (arith, h))) (up b h)
  | inr k ↦
      let same : suc b ≡ a = omega (arith, l, k) in
      subst (λ m. g m ≤ℤ g (suc b)) same (omega (arith, linear))
]

-- products with parts of a difference
product-parts : (w a b c : ℤ) → w *ℤ (c -ℤ a) ≡ w *ℤ (b -ℤ a) +ℤ w *ℤ (c -ℤ b)
product-parts w a b c = simp ring (omega (arith, linear))

nonneg-le : (u v d : ℤ) → u ≤ℤ v → pos 0 ≤ℤ d → (u *ℤ d) ≤ℤ (v *ℤ d)
nonneg-le u v d h k =
    let p : pos 0 ≤ℤ (d *ℤ (v -ℤ u)) = nonneg-*ℤ d (v -ℤ u) k (omega (arith, linear)) in
    omega (arith, linear, simp ring at p)

lower-step : (w v a b c m : ℤ) → w ≤ℤ v → b ≤ℤ c → (w *ℤ (b -ℤ a)) ≤ℤ m → (w *ℤ (c -ℤ a)) ≤ℤ (m +ℤ v *ℤ (c -ℤ b))
lower-step w v a b c m h k l = omega (arith, linear, product-parts w a b c, nonneg-le w v (c -ℤ b) h (omega (arith, linear)))

upper-step : (u v a b c m : ℤ) → u ≤ℤ v → a ≤ℤ b → m ≤ℤ (u *ℤ (b -ℤ a)) → (m +ℤ v *ℤ (c -ℤ b)) ≤ℤ (v *ℤ (c -ℤ a))
upper-step u v a b c m h k l = omega (arith, linear, product-parts v a b c, nonneg-le u v (b -ℤ a) h (omega (arith, linear)))

-- what is paid more at a higher value lies between the odds' growth times the lower and times the higher value
pub record IsPayBetween (v q pay : ℕ → ℤ) (a b : ℕ) : Type 0 where
  pub lower : (v a *ℤ (q b -ℤ q a)) ≤ℤ (pay b -ℤ pay a)
  pub upper : (pay b -ℤ pay a) ≤ℤ (v b *ℤ (q b -ℤ q a))

at-start : (v q pay : ℕ → ℤ) (a : ℕ) → IsPayBetween v q pay a a
at-start v q pay a =
    let none : q a -ℤ q a ≡ pos 0 = omega (arith, linear) in
    let zero : v a *ℤ (q a -ℤ q a) ≡ pos 0 = ap (λ z. v a *ℤ z) none ∙ *ℤ-zero (v a) in
    record { lower = omega (arith, linear, zero); upper = omega (arith, linear, zero) }

pub pay-between : (n : ℕ) (v q : ℕ → ℤ) → ((j : ℕ) → suc j < n → v j ≤ℤ v (suc j)) → ((j : ℕ) → suc j < n → q j ≤ℤ q (suc j)) → (a b : ℕ) → a ≤ b → b < n → IsPayBetween v q (pay_by v q) a b
pay-between n v q vs qs a zero l b =
    let same : 0 ≡ a = omega (arith, l) in
    subst (λ m. IsPayBetween v q (pay_by v q) m 0) same (at-start v q (pay_by v q) 0)
pay-between n v q vs qs a (suc b) l h = elim (cases_lt a (suc b)) [
  | inl k ↦
      let before : IsPayBetween v q (pay_by v q) a b = pay-between n v q vs qs a b (omega (arith, k)) (omega (arith, h)) in
      let more : pay_by v q (suc b) ≡ pay_by v q b +ℤ v (suc b) *ℤ (q (suc b) -ℤ q b) = refl in
      let low = lower-step (v a) (v (suc b)) (q a) (q b) (q (suc b)) (pay_by v q b -ℤ pay_by v q a) (ascends n v vs a (suc b) l h) (qs b h) before.lower in
      let high = upper-step (v b) (v (suc b)) (q a) (q b) (q (suc b)) (pay_by v q b -ℤ pay_by v q a) (vs b h) (ascends n q qs a b (omega (arith, k)) (omega (arith, h))) before.upper in
      record { lower = omega (arith, linear, more, low); upper = omega (arith, linear, more, high) }
  | inr k ↦
      let same : suc b ≡ a = omega (arith, l, k) in
      subst (λ m. IsPayBetween v q (pay_by v q) m (suc b)) same (at-start v q (pay_by v q) (suc b))
]

-- nobody pays less than nothing, nor more than the item is worth to it
pub pay-bounds : (n : ℕ) (v q : ℕ → ℤ) → ((j : ℕ) → suc j < n → v j ≤ℤ v (suc j)) → ((j : ℕ) → suc j < n → q j ≤ℤ q (suc j)) → pos 0 ≤ℤ v 0 → pos 0 ≤ℤ q 0 → (b : ℕ) → b < n
    → (pos 0 ≤ℤ pay_by v q b) × (pay_by v q b ≤ℤ (v b *ℤ q b))
pay-bounds n v q vs qs v0 q0 b h =
    let some : 0 < n = omega (arith, h) in
    let between : IsPayBetween v q (pay_by v q) 0 b = pay-between n v q vs qs 0 b (omega arith) h in
    let first : pay_by v q 0 ≡ v 0 *ℤ q 0 = omega (arith, linear) in
    let grown : q 0 ≤ℤ q b = ascends n q qs 0 b (omega arith) h in
    let rising : v 0 ≤ℤ v b = ascends n v vs 0 b (omega arith) h in
    let low : pos 0 ≤ℤ (v 0 *ℤ (q b -ℤ q 0)) = nonneg-*ℤ (v 0) (q b -ℤ q 0) v0 (omega (arith, linear)) in
    let base : pos 0 ≤ℤ (v 0 *ℤ q 0) = nonneg-*ℤ (v 0) (q 0) v0 q0 in
    let high : (v 0 *ℤ q 0) ≤ℤ (v b *ℤ q 0) = nonneg-le (v 0) (v b) (q 0) rising q0 in
    let whole : v b *ℤ (q b -ℤ q 0) ≡ v b *ℤ q b -ℤ v b *ℤ q 0 = simp ring (omega (arith, linear)) in
    (omega (arith, linear, between.lower, first, low, base), omega (arith, linear, between.upper, first, high, whole))
