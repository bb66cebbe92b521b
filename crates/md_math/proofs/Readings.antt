-- Sums and products of 128 bits, read back from their bits with the numbers that they stand for.
use Rattle.std.proofs.Common.{◌≡◌, ℕ, ◌+◌, ◌*◌, ◌^◌, ◌<◌, ◌≤◌, ℤ, ◌+ℤ◌, ◌-ℤ◌, ◌*ℤ◌, to_z, of_z, unsigned_abs, FitsSigned, refl, ap₂, ◌∙◌, arith, mul-le-mul}
use lib.Signed.{mag}
use mir.Syntax.{w64, w128}
use Rattle.md_math.specs.Sizes.{IsWithin}
use Rattle.md_math.proofs.Bits.{read_result, read_short_result, read_within}
use Rattle.md_math.proofs.SizeLaws.{fits_from_IsWithin}

-- ---- numbers with the bits that are read

-- a number x, which is at 128 bits and stands for z
pub record IsRead (x z : ℤ) : Type 0 where
  pub fits : mag x < 2 ^ 127
  pub is : x ≡ z

pub read : (x z : ℤ) → IsRead x z → to_z w128 (of_z w128 x) ≡ z
read x z r = read_result x r.fits ∙ r.is

-- a number of 64 bits that is made wider
pub widened : (x y z : ℤ) → mag x < 2 ^ 127 → mag y < 2 ^ 63 → x ≡ to_z w64 (of_z w64 y) → y ≡ z → IsRead x z
widened x y z fits short e same = record { fits = fits; is = e ∙ read_short_result y short ∙ same }

pub read_of : (x z : ℤ) → mag x < 2 ^ 127 → x ≡ z → IsRead x z
read_of x z fits same = record { fits = fits; is = same }

-- a number within a limit
pub read_small : (limit : ℕ) (z : ℤ) → IsWithin limit z → limit < 2 ^ 127 → IsRead z z
read_small limit z h l = record { fits = (fits_from_IsWithin w128 limit z h l).sfits; is = refl }

-- ---- products

pub product_fits : (x y a b : ℤ) (m n : ℕ) → IsRead x a → IsRead y b → IsWithin m a → IsWithin n b → m * n < 2 ^ 126
    → unsigned_abs (to_z w128 (of_z w128 x)) * unsigned_abs (to_z w128 (of_z w128 y)) < 2 ^ 126
product_fits x y a b m n p q h k l =
    rw (read x a p, read y b q)
    (let most : unsigned_abs a * unsigned_abs b ≤ m * n = mul-le-mul h.within k.within in omega (arith, most, l))

pub product_is : (r x y a b : ℤ) → mag r < 2 ^ 127 → IsRead x a → IsRead y b → r ≡ to_z w128 (of_z w128 x) *ℤ to_z w128 (of_z w128 y) → IsRead r (a *ℤ b)
product_is r x y a b fits p q e = record { fits = fits; is = e ∙ ap₂ (λ u v. u *ℤ v) (read x a p) (read y b q) }

-- ---- a sum with one product more

pub add_product_fits : (s x y c a b : ℤ) (limit m n : ℕ) → IsRead s c → IsRead x a → IsRead y b → IsWithin limit c → IsWithin m a → IsWithin n b → limit + m * n < 2 ^ 126
    → unsigned_abs (to_z w128 (of_z w128 s)) + unsigned_abs (to_z w128 (of_z w128 x)) * unsigned_abs (to_z w128 (of_z w128 y)) < 2 ^ 126
add_product_fits s x y c a b limit m n o p q g h k l =
    rw (read s c o, read x a p, read y b q)
    (let most : unsigned_abs a * unsigned_abs b ≤ m * n = mul-le-mul h.within k.within in omega (arith, g.within, most, l))

pub add_product_is : (r s x y c a b : ℤ) → mag r < 2 ^ 127 → IsRead s c → IsRead x a → IsRead y b → r ≡ to_z w128 (of_z w128 s) +ℤ to_z w128 (of_z w128 x) *ℤ to_z w128 (of_z w128 y) → IsRead r (c +ℤ a *ℤ b)
add_product_is r s x y c a b fits o p q e =
    record { fits = fits; is = e ∙ ap₂ (λ u v. u +ℤ v) (read s c o) (ap₂ (λ u v. u *ℤ v) (read x a p) (read y b q)) }

-- ---- differences

pub difference_fits : (x y a b : ℤ) (limit : ℕ) → IsRead x a → IsRead y b → IsWithin limit (a -ℤ b) → limit < 2 ^ 127 → FitsSigned w128 (to_z w128 (of_z w128 x) -ℤ to_z w128 (of_z w128 y))
difference_fits x y a b limit p q h l = rw (read x a p, read y b q) (fits_from_IsWithin w128 limit (a -ℤ b) h l)

pub difference_is : (x y a b : ℤ) (limit : ℕ) → IsRead x a → IsRead y b → IsWithin limit (a -ℤ b) → limit < 2 ^ 127
    → to_z w128 (of_z w128 (to_z w128 (of_z w128 x) -ℤ to_z w128 (of_z w128 y))) ≡ a -ℤ b
difference_is x y a b limit p q h l = rw (read x a p, read y b q) (read_within limit (a -ℤ b) h l)
