-- Products of signed numbers.
use Rattle.std.proofs.Common.{◌≡◌, ℕ, zero, suc, ◌<◌, ℤ, pos, ◌*ℤ◌, ◌≤ℤ◌, ◌<ℤ◌, refl, ap₂, arith}
use Rattle.std.proofs.lemmas.Int.{ints}
use Rattle.md_math.proofs.Order.{nonneg-*ℤ, positive-*ℤ}
use Rattle.md_bidders.specs.Products.{product_below}

pub product_below-same : (n : ℕ) (f g : ℕ → ℤ) → ((j : ℕ) → j < n → f j ≡ g j) → product_below n f ≡ product_below n g
product_below-same zero f g h = refl
product_below-same (suc n) f g h = ap₂ (λ x y. x *ℤ y) (product_below-same n f g (λ j b. h j (omega (arith, b)))) (h n (omega arith))

pub product_below-nonneg : (n : ℕ) (f : ℕ → ℤ) → ((j : ℕ) → j < n → pos 0 ≤ℤ f j) → pos 0 ≤ℤ product_below n f
product_below-nonneg zero f h = omega (arith, ints)
product_below-nonneg (suc n) f h = nonneg-*ℤ (product_below n f) (f n) (product_below-nonneg n f (λ j b. h j (omega (arith, b)))) (h n (omega arith))

pub product_below-positive : (n : ℕ) (f : ℕ → ℤ) → ((j : ℕ) → j < n → pos 0 <ℤ f j) → pos 0 <ℤ product_below n f
product_below-positive zero f h = omega (arith, ints)
product_below-positive (suc n) f h = positive-*ℤ (product_below n f) (f n) (product_below-positive n f (λ j b. h j (omega (arith, b)))) (h n (omega arith))
