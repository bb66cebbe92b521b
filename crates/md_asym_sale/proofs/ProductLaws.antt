-- Products of signed numbers: how large products of weights are, and products that differ at one place.
use Rattle.std.proofs.Common.{◌≡◌, ◌≢◌, ◌==◌, ℕ, zero, suc, ◌+◌, ◌-◌, ◌*◌, ◌<◌, ◌≤◌, ◌^◌, ℤ, pos, ◌*ℤ◌, ◌<ℤ◌, if◌then◌else◌, unsigned_abs, refl, sym, ap, ap₂, ◌∙◌, subst, arith, mul-le-mul, add-one, eq-eqb, ne_eqb, inl, inr}
use Rattle.std.proofs.lemmas.Bool.{cases_lt}
use Rattle.std.proofs.lemmas.Int.{ints}
use Rattle.std.proofs.Math.Nat.{pow-le-pow_right, pow-suc, pow-zero}
use Rattle.md_math.specs.Sizes.{IsWithin}
use Rattle.md_math.proofs.Order.{positive-*ℤ}
use Rattle.md_math.proofs.Ring.{ring, *ℤ-one}
use Rattle.md_math.proofs.SizeLaws.{IsWithin-*ℤ, IsWithin-wider}
use Rattle.md_asym_sale.specs.Products.{product_below}

pub product_below-more : (n : ℕ) (f : ℕ → ℤ) → product_below (n + 1) f ≡ product_below n f *ℤ f n
product_below-more n f = rw add-one refl

within-power : (n : ℕ) (f : ℕ → ℤ) → ((j : ℕ) → j < n → IsWithin 1000000 (f j)) → IsWithin (1000000 ^ n) (product_below n f)
within-power zero f h = record { within = (let one : 1000000 ^ 0 ≡ 1 = pow-zero 1000000 in omega (arith, one)) }
within-power (suc n) f h =
    subst (λ k. IsWithin k (product_below n f *ℤ f n)) (sym (pow-suc 1000000 n))
    (IsWithin-*ℤ (1000000 ^ n) 1000000 (product_below n f) (f n) (within-power n f (λ j b. h j (omega (arith, b)))) (h n (omega arith)))

-- a product of up to six weights, and of up to five
pub product-within : (n : ℕ) (f : ℕ → ℤ) → n ≤ 6 → ((j : ℕ) → j < n → IsWithin 1000000 (f j)) → IsWithin (10 ^ 36) (product_below n f)
product-within n f few h =
    let most : 1000000 ^ n ≤ 1000000 ^ 6 = pow-le-pow_right {n = 1000000} (omega arith) {i = n} {j = 6} few in
    IsWithin-wider (1000000 ^ n) (10 ^ 36) (product_below n f) (omega (arith, most)) (within-power n f h)

pub fewer-within : (n : ℕ) (f : ℕ → ℤ) → n ≤ 5 → ((j : ℕ) → j < n → IsWithin 1000000 (f j)) → IsWithin (10 ^ 30) (product_below n f)
fewer-within n f few h =
    let most : 1000000 ^ n ≤ 1000000 ^ 5 = pow-le-pow_right {n = 1000000} (omega arith) {i = n} {j = 5} few in
    IsWithin-wider (1000000 ^ n) (10 ^ 30) (product_below n f) (omega (arith, most)) (within-power n f h)

-- a product of five weights and one more
pub step-fits : (x y : ℤ) → IsWithin (10 ^ 30) x → IsWithin 1000000 y → unsigned_abs x * unsigned_abs y < 2 ^ 126
step-fits x y h k = (let most : unsigned_abs x * unsigned_abs y ≤ 10 ^ 30 * 1000000 = mul-le-mul h.within k.within in omega (arith, most))

-- ---- products at their places

pub product_below-same : (n : ℕ) (f g : ℕ → ℤ) → ((j : ℕ) → j < n → f j ≡ g j) → product_below n f ≡ product_below n g
product_below-same zero f g h = refl
product_below-same (suc n) f g h = ap₂ (λ x y. x *ℤ y) (product_below-same n f g (λ j b. h j (omega (arith, b)))) (h n (omega arith))

pub product_below-positive : (n : ℕ) (f : ℕ → ℤ) → ((j : ℕ) → j < n → pos 0 <ℤ f j) → pos 0 <ℤ product_below n f
product_below-positive zero f h = omega (arith, ints)
product_below-positive (suc n) f h = positive-*ℤ (product_below n f) (f n) (product_below-positive n f (λ j b. h j (omega (arith, b)))) (h n (omega arith))

-- two products that differ at one place
pub product_below-but : (n k : ℕ) (f g : ℕ → ℤ) → k < n → ((j : ℕ) → j < n → j ≢ k → f j ≡ g j) → product_below n f *ℤ g k ≡ product_below n g *ℤ f k
product_below-but zero k f g b h = absurd (omega (arith, b))
product_below-but (suc n) k f g b h = elim (cases_lt k n) [
  | inl l ↦
      let rest : product_below n f *ℤ g k ≡ product_below n g *ℤ f k = product_below-but n k f g l (λ j c d. h j (omega (arith, c)) d) in
      let last : f n ≡ g n = h n (omega arith) (λ e. absurd (omega (arith, e, l))) in
      ap (λ z. (product_below n f *ℤ z) *ℤ g k) last
      ∙ behind (product_below n f) (g n) (g k)
      ∙ ap (λ z. z *ℤ g n) rest
      ∙ behind (product_below n g) (f k) (g n)
  | inr l ↦
      let here : k ≡ n = omega (arith, b, l) in
      let rest : product_below n f ≡ product_below n g = product_below-same n f g (λ j c. h j (omega (arith, c)) (λ e. absurd (omega (arith, c, e, l)))) in
      ap (λ i. (product_below n f *ℤ f n) *ℤ g i) here
      ∙ ap (λ z. (z *ℤ f n) *ℤ g n) rest
      ∙ behind (product_below n g) (f n) (g n)
      ∙ ap (λ i. (product_below n g *ℤ g n) *ℤ f i) (sym here)
]
  where
    behind : (x y z : ℤ) → (x *ℤ y) *ℤ z ≡ (x *ℤ z) *ℤ y
    behind x y z = simp ring

-- f at all places but one
abbrev pub but : ℕ → (ℕ → ℤ) → ℕ → ℤ
but k f j = if j == k then pos 1 else f j

-- what is left out of a product
pub product_below-all : (n k : ℕ) (f : ℕ → ℤ) → k < n → product_below n (but k f) *ℤ f k ≡ product_below n f
product_below-all n k f b =
    product_below-but n k (but k f) f b (λ j c d. rw (ne_eqb j k d) refl)
    ∙ ap (λ z. product_below n f *ℤ z) (rw (eq-eqb k k refl) refl)
    ∙ *ℤ-one (product_below n f)
