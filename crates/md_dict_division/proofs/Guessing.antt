-- Quotients that are guessed by one multiplication: bits that are 0, and what a guess is then.
use Rattle.std.proofs.Common.{◌≡◌, ℕ, zero, suc, ◌+◌, ◌-◌, ◌*◌, ◌/◌, ◌%◌, ◌^◌, ◌<◌, ◌≤◌, ℤ, pos, negsuc, neg_ℤ, ◌+ℤ◌, ◌-ℤ◌, ◌*ℤ◌, FitsSigned, to_z, of_z, bit_or, unsigned_abs, max, sym, ap, ap₂, ◌∙◌, subst, inl, inr, mul-le-mul_right, lit<, arith}
use lib.IntN.{*ℤ_comm}
use lib.Signed.{mag_shr, shr_z}
use mir.Syntax.{w64}
use mir.Val.{bits}
use Rattle.std.specs.Int.{bit_at, int_wrap, trailing_zeros}
use Rattle.std.proofs.Math.Facts.{sfits_to_z, to_z-neg}
use Rattle.std.proofs.Math.Nat as NatL
use Rattle.std.proofs.lemmas.Bool.{cases_lt}
use Rattle.std.proofs.lemmas.Int.{fits_signed_from_abs, int_wrap_fits, int_wrap-add_left, int_wrap-add_same, int_wrap-sub_right, int_wrap-mul_left, int_wrap-mul_right, to_z_pos, to_z-of_z, unsigned_abs-mul, wrapping_mul_onto, wrapping_sub-bits}
use Rattle.std.proofs.lemmas.Nat.{mul-mod_second, pow-add, pow_pos, div-mul-add}
use Rattle.std.proofs.lemmas.Nat.Bits.{bit_at-trailing_zeros, bit_at-zero, bit_at_or}
use Rattle.md_math.specs.Sizes.{IsWithin}
use Rattle.md_math.proofs.SizeLaws.{fits_from_IsWithin}
use Rattle.md_math.proofs.Ring.{*ℤ_assoc, *ℤ-+ℤ, *ℤ-neg_ℤ, one-*ℤ}
use Rattle.md_dict_division.specs.Inverses.{EndsInZeros}
use Rattle.md_dict_division.proofs.OddParts.{multiple_from_bits}

-- ---- lowest bits that are 0

pub EndsInZeros-from_trailing : (k n : ℕ) → n < 2 ^ bits w64 → k ≤ trailing_zeros w64 n → EndsInZeros k n
EndsInZeros-from_trailing k n fits l =
    elim (cases_lt 0 n) [
      | inl some ↦ record { at = λ i b. (bit_at-trailing_zeros w64 n some fits).2 i (omega (arith, b, l)) }
      | inr none ↦ (let zero : 0 ≡ n = omega (arith, none) in subst (EndsInZeros k) zero (record { at = λ i _. bit_at-zero i }))
    ]

-- of two numbers that are joined
pub EndsInZeros-or : (k a b : ℕ) → EndsInZeros k (bit_or a b) → EndsInZeros k a × EndsInZeros k b
EndsInZeros-or k a b h =
    let both : (i : ℕ) → i < k → max (bit_at a i) (bit_at b i) ≡ 0 = (λ i l. sym (bit_at_or a b i) ∙ h.at i l) in (
      record { at = λ i l. omega (arith, both i l) },
      record { at = λ i l. omega (arith, both i l) },
    )

-- ---- a shift that loses no bit

-- a number that is one less than a multiple, and its quotient
below_multiple : (p r m : ℕ) → 0 < p → p * r ≡ suc m → p * suc (m / p) ≡ suc m
below_multiple p zero m above e = absurd (omega (arith, e))
below_multiple p (suc r) m above e =
    let digits : m ≡ r * p + (p - 1) = omega (arith, e, above) in
    let quotient : m / p ≡ r = ap (λ x. x / p) digits ∙ div-mul-add r p (p - 1) (omega (arith, above)) in
    ap (λ x. p * suc x) quotient ∙ e

-- what a multiple of a power of 2 is missing to 2 ^ 64 is a multiple too
shifted_below : (k n : ℕ) → k < 64 → n < 2 ^ 64 → 2 ^ k * (n / 2 ^ k) ≡ n → 2 ^ k * suc ((2 ^ 64 - suc n) / 2 ^ k) ≡ suc (2 ^ 64 - suc n)
shifted_below k n l fits value =
    let power : 2 ^ 64 ≡ 2 ^ k * 2 ^ (64 - k) = ap (λ x. 2 ^ x) (let s : 64 ≡ k + (64 - k) = omega arith in s) ∙ pow-add 2 k (64 - k) in
    let sum : n + suc (2 ^ 64 - suc n) ≡ 2 ^ 64 = omega (arith, fits) in
    let rest : 2 ^ k * (2 ^ (64 - k) - n / 2 ^ k) ≡ suc (2 ^ 64 - suc n) = NatL.mul-sub (2 ^ k) (2 ^ (64 - k)) (n / 2 ^ k) ∙ left (2 ^ k * 2 ^ (64 - k)) (2 ^ k * (n / 2 ^ k)) n (suc (2 ^ 64 - suc n)) (sum ∙ power) value in
    below_multiple (2 ^ k) (2 ^ (64 - k) - n / 2 ^ k) (2 ^ 64 - suc n) (pow_pos k) rest
  where
    left : (whole part n m : ℕ) → n + m ≡ whole → part ≡ n → whole - part ≡ m
    left whole part n m e same = omega (arith, e, same)

pub shifted_back : (k n : ℕ) → k < 64 → n < 2 ^ 64 → EndsInZeros k n → pos (2 ^ k) *ℤ shr_z (to_z w64 n) (2 ^ k) ≡ to_z w64 n
shifted_back k n l fits h =
    let value : 2 ^ k * (n / 2 ^ k) ≡ n = multiple_from_bits k n h.at in
    elim (cases_lt n (2 ^ 63)) [
      | inl low ↦ (let same : to_z w64 n ≡ pos n = to_z_pos w64 n low in rw same (ap pos value))
      | inr high ↦
          let back : n ≡ 2 ^ 64 - suc (2 ^ 64 - suc n) = omega (arith, fits) in
          let same : to_z w64 n ≡ negsuc (2 ^ 64 - suc n) = ap (to_z w64) back ∙ to_z-neg w64 (2 ^ 64 - suc n) (omega (arith, high, fits)) in
          rw same (ap (λ x. neg_ℤ (pos x)) (shifted_below k n l fits value))
    ]

-- it is read back from its bits
pub read_shifted : (m n : ℕ) → n < 2 ^ 64 → to_z w64 (of_z w64 (shr_z (to_z w64 n) m)) ≡ shr_z (to_z w64 n) m
read_shifted m n fits =
    let size = (sfits_to_z {w = w64} (record { fits = fits })).sfits in
    to_z-of_z w64 (shr_z (to_z w64 n) m) (record { sfits = omega (arith, mag_shr (to_z w64 n) m, size) })

-- ---- a guess that is right

-- the product of a number with the inverse
times_inverse : (inverse : ℕ) (x : ℤ) → FitsSigned w64 x → to_z w64 (of_z w64 x * inverse % 2 ^ 64) ≡ int_wrap w64 (to_z w64 (inverse % 2 ^ 64) *ℤ x)
times_inverse inverse x size =
    let v = inverse % 2 ^ 64 in
    ap (to_z w64) (sym (mul-mod_second (of_z w64 x) inverse (2 ^ 64)) ∙ ap (λ k. k % 2 ^ 64) (NatL.mul_comm (of_z w64 x) v)) ∙ wrapping_mul_onto w64 v x (NatL.mod-lt inverse (pow_pos 64)) size

-- a product is multiplied where its first factor is
times_first : (i a b : ℤ) → int_wrap w64 (int_wrap w64 (i *ℤ a) *ℤ b) ≡ int_wrap w64 (i *ℤ (a *ℤ b))
times_first i a b = int_wrap-mul_left w64 (i *ℤ a) b ∙ ap (int_wrap w64) (*ℤ_assoc i a b)

-- so is the difference of two products
times_first_factors : (i m f a b c d : ℤ) → m ≡ int_wrap w64 (i *ℤ a) → f ≡ int_wrap w64 (i *ℤ c) → int_wrap w64 (m *ℤ b -ℤ f *ℤ d) ≡ int_wrap w64 (i *ℤ (a *ℤ b -ℤ c *ℤ d))
times_first_factors i m f a b c d first second =
    let left : int_wrap w64 (m *ℤ b) ≡ int_wrap w64 (i *ℤ (a *ℤ b)) = ap (λ z. int_wrap w64 (z *ℤ b)) first ∙ times_first i a b in
    let right : int_wrap w64 (f *ℤ d) ≡ int_wrap w64 (i *ℤ (c *ℤ d)) = ap (λ z. int_wrap w64 (z *ℤ d)) second ∙ times_first i c d in
    sym (int_wrap-sub_right w64 (m *ℤ b) (f *ℤ d)) ∙ ap (λ z. int_wrap w64 (m *ℤ b -ℤ z)) right ∙ int_wrap-sub_right w64 (m *ℤ b) (i *ℤ (c *ℤ d))
    ∙ int_wrap-add_same w64 (m *ℤ b) (i *ℤ (a *ℤ b)) (neg_ℤ (i *ℤ (c *ℤ d))) left
    ∙ ap (int_wrap w64) (spread i (a *ℤ b) (c *ℤ d))
  where
    spread : (i x y : ℤ) → i *ℤ x -ℤ i *ℤ y ≡ i *ℤ (x -ℤ y)
    spread i x y = sym (*ℤ-+ℤ i x (neg_ℤ y) ∙ ap (λ z. i *ℤ x +ℤ z) (*ℤ-neg_ℤ i y))

-- the bits of such a difference
pub mixed_is : (m f : ℕ) (b d : ℤ) → m < 2 ^ 64 → f < 2 ^ 64 → FitsSigned w64 b → FitsSigned w64 d → to_z w64 ((m * of_z w64 b % 2 ^ 64 + (2 ^ 64 - f * of_z w64 d % 2 ^ 64)) % 2 ^ 64) ≡ int_wrap w64 (to_z w64 m *ℤ b -ℤ to_z w64 f *ℤ d)
mixed_is m f b d p q u v =
    wrapping_sub-bits w64 (m * of_z w64 b % 2 ^ 64) (f * of_z w64 d % 2 ^ 64) (NatL.mod-lt (m * of_z w64 b) (pow_pos 64)) (NatL.mod-lt (f * of_z w64 d) (pow_pos 64))
    ∙ ap₂ (λ x y. int_wrap w64 (x -ℤ y)) (wrapping_mul_onto w64 m b p u) (wrapping_mul_onto w64 f d q v)
    ∙ int_wrap-sub_right w64 (int_wrap w64 (to_z w64 m *ℤ b)) (to_z w64 f *ℤ d)
    ∙ int_wrap-add_left w64 (to_z w64 m *ℤ b) (neg_ℤ (to_z w64 f *ℤ d))

-- the product with the inverse, of such a difference whose first factors were multiplied by it before
pub guess_of_mix : (inverse m f n : ℕ) (a b c d : ℤ) → IsWithin (2 ^ 62) a → IsWithin (2 ^ 62) c → m ≡ of_z w64 a * inverse % 2 ^ 64 → f ≡ of_z w64 c * inverse % 2 ^ 64 → to_z w64 n ≡ int_wrap w64 (to_z w64 m *ℤ b -ℤ to_z w64 f *ℤ d) → to_z w64 n ≡ int_wrap w64 (to_z w64 (inverse % 2 ^ 64) *ℤ (a *ℤ b -ℤ c *ℤ d))
guess_of_mix inverse m f n a b c d p q first second made =
    made
    ∙ times_first_factors (to_z w64 (inverse % 2 ^ 64)) (to_z w64 m) (to_z w64 f) a b c d
    (ap (to_z w64) first ∙ times_inverse inverse a (fits_from_IsWithin w64 (2 ^ 62) a p (lit< tt)))
    (ap (to_z w64) second ∙ times_inverse inverse c (fits_from_IsWithin w64 (2 ^ 62) c q (lit< tt)))

-- in 64 bits, by a number whose product with the inverse is 1
wrapped_product : (odd inverse n : ℕ) (x : ℤ) → unsigned_abs (pos odd) < 2 ^ 63 → FitsSigned w64 x → odd * inverse % 2 ^ 64 ≡ 1 → to_z w64 n ≡ int_wrap w64 (to_z w64 (inverse % 2 ^ 64) *ℤ x) → int_wrap w64 (pos odd *ℤ to_z w64 n) ≡ x
wrapped_product odd inverse n x small size one made =
    let v = inverse % 2 ^ 64 in
    let fits : v < 2 ^ 64 = NatL.mod-lt inverse (pow_pos 64) in
    let whole : int_wrap w64 (to_z w64 v *ℤ pos odd) ≡ pos 1 =
    sym (wrapping_mul_onto w64 v (pos odd) fits (fits_signed_from_abs w64 (pos odd) small)) ∙ ap (to_z w64) (ap (λ k. k % 2 ^ 64) (NatL.mul_comm v odd) ∙ mul-mod_second odd inverse (2 ^ 64) ∙ one) in
    ap (λ z. int_wrap w64 (pos odd *ℤ z)) made ∙ int_wrap-mul_right w64 (pos odd) (to_z w64 v *ℤ x)
    ∙ ap (int_wrap w64) (sym (*ℤ_assoc (pos odd) (to_z w64 v) x) ∙ ap (λ z. z *ℤ x) (*ℤ_comm (pos odd) (to_z w64 v)))
    ∙ sym (int_wrap-mul_left w64 (to_z w64 v *ℤ pos odd) x) ∙ ap (λ z. int_wrap w64 (z *ℤ x)) whole ∙ ap (int_wrap w64) (one-*ℤ x) ∙ int_wrap_fits w64 x size

pub guessed_right : (odd inverse n k : ℕ) (d x q : ℤ) → d ≡ pos (2 ^ k * odd) → odd * inverse % 2 ^ 64 ≡ 1 → to_z w64 n ≡ int_wrap w64 (to_z w64 (inverse % 2 ^ 64) *ℤ x) → pos (2 ^ k) *ℤ q ≡ to_z w64 n → unsigned_abs d < 2 ^ 63 → FitsSigned w64 x → unsigned_abs q * unsigned_abs d < 2 ^ 63 → d *ℤ q ≡ x
guessed_right odd inverse n k d x q value one made shifted small size product =
    let below : 1 * odd ≤ 2 ^ k * odd = mul-le-mul_right odd (pow_pos k) in
    let odd_size : odd < 2 ^ 63 = omega (arith, below, ap unsigned_abs value, small) in
    let parts : d *ℤ q ≡ pos odd *ℤ to_z w64 n =
    ap (λ z. z *ℤ q) (value ∙ ap pos (NatL.mul_comm (2 ^ k) odd)) ∙ *ℤ_assoc (pos odd) (pos (2 ^ k)) q ∙ ap (λ z. pos odd *ℤ z) shifted in
    let fits : unsigned_abs (d *ℤ q) < 2 ^ 63 = omega (arith, product, unsigned_abs-mul d q) in
    sym (int_wrap_fits w64 (d *ℤ q) (fits_signed_from_abs w64 (d *ℤ q) fits)) ∙ ap (int_wrap w64) parts ∙ wrapped_product odd inverse n x odd_size size one made
