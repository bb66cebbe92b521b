-- Payments that make it best to report the true value.
use Rattle.std.proofs.Common.{◌≡◌, ℕ, zero, suc, ◌<◌, ◌≤◌, ℤ, pos, ◌+ℤ◌, ◌-ℤ◌, ◌*ℤ◌, ◌≤ℤ◌, inl, inr, refl, ap, ap₂, subst, ◌∙◌, arith}
use Rattle.std.proofs.lemmas.Bool.{cases_lt}
use Rattle.md_math.proofs.Ring.{linear, ring, *ℤ-zero}
use Rattle.md_math.proofs.Order.{nonneg-*ℤ, ≤ℤ_trans}
use Rattle.md_math.proofs.SumLaws.{sum_to-same, sum_to-zero}
use Rattle.md_list.specs.Rule.{step_of, pay_by}

-- a function of places that never falls
pub ascends : (n : ℕ) (g : ℕ → ℤ) → ((j : ℕ) → suc j < n → g j ≤ℤ g (suc j)) → (a b : ℕ) → a ≤ b → b < n → g a ≤ℤ g b
ascends n g up a zero l b =
    let same : 0 ≡ a = omega (arith, l) in
    subst (λ m. g m ≤ℤ g 0) same (omega (arith, linear))
ascends n g up a (suc b) l h = elim (cases_lt a (suc b)) [
  | inl k ↦ ≤ℤ_trans (g a) (g b) (g (suc b)) (ascends n g up a b (omega (arith, k)) (omega (arith, h))) (up b h)
  | inr k ↦
      let same : suc b ≡ a = omega (arith, l, k) in
      subst (λ m. g m ≤ℤ g (suc b)) same (omega (arith, linear))
]

-- products with parts of a difference
product-parts : (w a b c : ℤ) → w *ℤ (c -ℤ a) ≡ w *ℤ (b -ℤ a) +ℤ w *ℤ (c -ℤ b)
product-parts w a b c = simp ring (omega (arith, linear))

nonneg-le : (u v d : ℤ) → u ≤ℤ v → pos 0 ≤ℤ d → (u *ℤ d) ≤ℤ (v *ℤ d)
nonneg-le u v d h k =
    let p : pos 0 ≤ℤ (d *ℤ (v -ℤ u)) = nonneg-*ℤ d (v -ℤ u) k (omega (arith, linear)) in
    omega (arith, linear, simp ring at p)

lower-step : (w v a b c m : ℤ) → w ≤ℤ v → b ≤ℤ c → (w *ℤ (b -ℤ a)) ≤ℤ m → (w *ℤ (c -ℤ a)) ≤ℤ (m +ℤ v *ℤ (c -ℤ b))
lower-step w v a b c m h k l = omega (arith, linear, product-parts w a b c, nonneg-le w v (c -ℤ b) h (omega (arith, linear)))

upper-step : (u v a b c m : ℤ) → u ≤ℤ v → a ≤ℤ b → m ≤ℤ (u *ℤ (b -ℤ a)) → (m +ℤ v *ℤ (c -ℤ b)) ≤ℤ (v *ℤ (c -ℤ a))
upper-step u v a b c m h k l = omega (arith, linear, product-parts v a b c, nonneg-le u v (b -ℤ a) h (omega (arith, linear)))

-- what is paid more at a higher value lies between what is had more times the lower and times the higher value
pub record IsPayBetween (v q pay : ℕ → ℤ) (a b : ℕ) : Type 0 where
  pub lower : (v a *ℤ (q b -ℤ q a)) ≤ℤ (pay b -ℤ pay a)
  pub upper : (pay b -ℤ pay a) ≤ℤ (v b *ℤ (q b -ℤ q a))

at-start : (v q pay : ℕ → ℤ) (a : ℕ) → IsPayBetween v q pay a a
at-start v q pay a =
    let none : q a -ℤ q a ≡ pos 0 = omega (arith, linear) in
    let zero : v a *ℤ (q a -ℤ q a) ≡ pos 0 = ap (λ z. v a *ℤ z) none ∙ *ℤ-zero (v a) in
    record { lower = omega (arith, linear, zero); upper = omega (arith, linear, zero) }

-- values and what is had with them, neither of which falls
module _ (n : ℕ) (v q : ℕ → ℤ) (vs : (j : ℕ) → suc j < n → v j ≤ℤ v (suc j)) (qs : (j : ℕ) → suc j < n → q j ≤ℤ q (suc j)) where
  pub pay-between : (a b : ℕ) → a ≤ b → b < n → IsPayBetween v q (pay_by v q) a b
  pay-between a zero l b =
      let same : 0 ≡ a = omega (arith, l) in
      subst (λ m. IsPayBetween v q (pay_by v q) m 0) same (at-start v q (pay_by v q) 0)
  pay-between a (suc b) l h = elim (cases_lt a (suc b)) [
    | inl k ↦
        let before : IsPayBetween v q (pay_by v q) a b = pay-between a b (omega (arith, k)) (omega (arith, h)) in
        let more : pay_by v q (suc b) ≡ pay_by v q b +ℤ v (suc b) *ℤ (q (suc b) -ℤ q b) = refl in
        let low = lower-step (v a) (v (suc b)) (q a) (q b) (q (suc b)) (pay_by v q b -ℤ pay_by v q a) (ascends n v vs a (suc b) l h) (qs b h) before.lower in
        let high = upper-step (v b) (v (suc b)) (q a) (q b) (q (suc b)) (pay_by v q b -ℤ pay_by v q a) (vs b h) (ascends n q qs a b (omega (arith, k)) (omega (arith, h))) before.upper in
        record { lower = omega (arith, linear, more, low); upper = omega (arith, linear, more, high) }
    | inr k ↦
        let same : suc b ≡ a = omega (arith, l, k) in
        subst (λ m. IsPayBetween v q (pay_by v q) m (suc b)) same (at-start v q (pay_by v q) (suc b))
  ]

  -- nobody pays more than its value for what it gets
  pub pay-most : pos 0 ≤ℤ q 0 → (b : ℕ) → b < n → pay_by v q b ≤ℤ (v b *ℤ q b)
  pay-most q0 b h =
      let between : IsPayBetween v q (pay_by v q) 0 b = pay-between 0 b (omega arith) h in
      let first : pay_by v q 0 ≡ v 0 *ℤ q 0 = omega (arith, linear) in
      let high : (v 0 *ℤ q 0) ≤ℤ (v b *ℤ q 0) = nonneg-le (v 0) (v b) (q 0) (ascends n v vs 0 b (omega arith) h) q0 in
      let whole : v b *ℤ (q b -ℤ q 0) ≡ v b *ℤ q b -ℤ v b *ℤ q 0 = simp ring (omega (arith, linear)) in
      omega (arith, linear, between.upper, first, high, whole)

  -- and no other report would give it more
  pub pay-best : (own told : ℕ) → own < n → told < n → (v own *ℤ q told -ℤ pay_by v q told) ≤ℤ (v own *ℤ q own -ℤ pay_by v q own)
  pay-best own told h l = elim (cases_lt own told) [
    | inl m ↦ up (v own) (q own) (q told) (pay_by v q own) (pay_by v q told) (pay-between own told (omega (arith, m)) l).lower
    | inr m ↦ down (v own) (q own) (q told) (pay_by v q own) (pay_by v q told) (pay-between told own m h).upper
  ]
    where
      up : (u x0 x1 p0 p1 : ℤ) → (u *ℤ (x1 -ℤ x0)) ≤ℤ (p1 -ℤ p0) → (u *ℤ x1 -ℤ p1) ≤ℤ (u *ℤ x0 -ℤ p0)
      up u x0 x1 p0 p1 h = (let k = simp ring at h in omega (arith, linear, k))

      down : (u x0 x1 p0 p1 : ℤ) → (p0 -ℤ p1) ≤ℤ (u *ℤ (x0 -ℤ x1)) → (u *ℤ x1 -ℤ p1) ≤ℤ (u *ℤ x0 -ℤ p0)
      down u x0 x1 p0 p1 h = (let k = simp ring at h in omega (arith, linear, k))

-- payments by functions that agree up to a value
pub pay-same : (v q r : ℕ → ℤ) (b : ℕ) → ((j : ℕ) → j ≤ b → q j ≡ r j) → pay_by v q b ≡ pay_by v r b
pay-same v q r b h = sum_to-same (suc b) _ _ (λ j l. ap (λ z. v j *ℤ z) (step j (omega (arith, l))))
  where
    step : (j : ℕ) → j ≤ b → step_of q j ≡ step_of r j
    step zero l = h 0 l
    step (suc j) l = ap₂ (λ x y. x -ℤ y) (h (suc j) l) (h j (omega (arith, l)))

-- nothing is paid where nothing is had
pub pay-none : (v q : ℕ → ℤ) (b : ℕ) → ((j : ℕ) → j ≤ b → q j ≡ pos 0) → pay_by v q b ≡ pos 0
pay-none v q b h = pay-same v q (λ _. pos 0) b h ∙ sum_to-zero (suc b) _ (λ j l. ap (λ z. v j *ℤ z) (still j) ∙ *ℤ-zero (v j))
  where
    still : (j : ℕ) → step_of (λ _. pos 0) j ≡ pos 0
    still zero = refl
    still (suc j) = refl
