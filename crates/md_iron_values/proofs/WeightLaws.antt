-- Weights that are added up.
use Rattle.std.proofs.Common.{◌≡◌, ℕ, zero, suc, ◌+◌, ◌<◌, ◌≤◌, pos, inl, inr, refl, subst, arith}
use Rattle.std.proofs.lemmas.Bool.{cases_lt}
use Rattle.std.proofs.lemmas.Int.{ints}
use Rattle.md_math.specs.Sums.{sum_to}
use Rattle.md_iron_values.specs.Weights.{weight_before}

pub weight_before-same : (f g : ℕ → ℕ) (n : ℕ) → ((i : ℕ) → i < n → f i ≡ g i) → weight_before f n ≡ weight_before g n
weight_before-same f g zero h = refl
weight_before-same f g (suc n) h = omega (arith, weight_before-same f g n (λ i b. h i (omega (arith, b))), h n (omega arith))

pub weight_before-both : (f g h : ℕ → ℕ) (n : ℕ) → ((i : ℕ) → i < n → h i ≡ f i + g i) → weight_before h n ≡ weight_before f n + weight_before g n
weight_before-both f g h zero e = omega arith
weight_before-both f g h (suc n) e = omega (arith, weight_before-both f g h n (λ i b. e i (omega (arith, b))), e n (omega arith))

pub weight_before-up : (f : ℕ → ℕ) (x y : ℕ) → x ≤ y → weight_before f x ≤ weight_before f y
weight_before-up f x zero h =
    let same : x ≡ 0 = omega (arith, h) in
    subst (λ m. weight_before f m ≤ weight_before f 0) (let e : 0 ≡ x = omega (arith, same) in e) (omega arith)
weight_before-up f x (suc y) h = elim (cases_lt x (suc y)) [
  | inl l ↦ omega (arith, weight_before-up f x y (omega (arith, l)))
  | inr g ↦
      let same : suc y ≡ x = omega (arith, h, g) in
      subst (λ m. weight_before f m ≤ weight_before f (suc y)) same (omega arith)
]

-- positive weights
pub weight_before-less : (f : ℕ → ℕ) (x y : ℕ) → x < y → ((i : ℕ) → i < y → 0 < f i) → weight_before f x < weight_before f y
weight_before-less f x zero h p = absurd (omega (arith, h))
weight_before-less f x (suc y) h p = omega (arith, weight_before-up f x y (omega (arith, h)), p y (omega arith))

-- as a sum of signed numbers
pub pos-weight_before : (f : ℕ → ℕ) (n : ℕ) → pos (weight_before f n) ≡ sum_to n (λ i. pos (f i))
pos-weight_before f zero = refl
pos-weight_before f (suc n) = omega (arith, ints, pos-weight_before f n)
