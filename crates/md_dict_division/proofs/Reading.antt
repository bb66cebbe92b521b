-- Numbers that are read back from their bits, and the sizes of products of two kept numbers.
use Rattle.std.proofs.Common.{◌≡◌, ◌+◌, ◌-◌, ◌*◌, ◌^◌, ◌<◌, ◌≤◌, ℤ, ◌*ℤ◌, to_z, of_z, SFits, unsigned_abs, lit<, mul-le-mul, ap, ap₂, ◌∙◌, arith}
use Rattle.std.proofs.lemmas.Int.{to_z-of_z, fits_signed_from_abs}
use mir.Syntax.{w128, w64}
use Rattle.md_math.specs.Sizes.{IsWithin}
use Rattle.md_math.proofs.SizeLaws.{fits_from_IsWithin, IsWithin-*ℤ}

-- a number that fits is read back from its bits
pub read : (z : ℤ) → SFits w128 z → to_z w128 (of_z w128 z) ≡ z
read z fits = to_z-of_z w128 z fits

-- a number of 126 bits
pub read_wide : (z : ℤ) → unsigned_abs z < 2 ^ 126 → to_z w128 (of_z w128 z) ≡ z
read_wide z small = read z (fits_signed_from_abs w128 z (omega arith))

-- a number of 62 bits
pub read_small : (z : ℤ) → IsWithin (2 ^ 62) z → to_z w128 (of_z w128 z) ≡ z
read_small z small = read z (fits_from_IsWithin w128 (2 ^ 62) z small (lit< tt))

-- the same of 64 bits
pub read_short : (z : ℤ) → IsWithin (2 ^ 62) z → to_z w64 (of_z w64 z) ≡ z
read_short z small = to_z-of_z w64 z (fits_from_IsWithin w64 (2 ^ 62) z small (lit< tt))

-- a number of 63 bits and its sign
pub read_whole : (z : ℤ) → IsWithin (2 ^ 63 - 1) z → to_z w64 (of_z w64 z) ≡ z
read_whole z small = to_z-of_z w64 z (fits_from_IsWithin w64 (2 ^ 63 - 1) z small (lit< tt))

-- such a number that was cast to 64 bits
pub read_cast_whole : (z : ℤ) → SFits w128 z → IsWithin (2 ^ 63 - 1) z → to_z w64 (of_z w64 (to_z w128 (of_z w128 z))) ≡ z
read_cast_whole z fits small = ap (λ y. to_z w64 (of_z w64 y)) (read z fits) ∙ read_whole z small

-- a number of 62 bits that was widened
pub widened : (x from : ℤ) → IsWithin (2 ^ 62) x → from ≡ to_z w64 (of_z w64 x) → to_z w128 (of_z w128 from) ≡ x
widened x from h e = rw (e, read_short x h) (read_small x h)

-- the product of two numbers of 62 bits
pub product_small : (a b : ℤ) → IsWithin (2 ^ 62) a → IsWithin (2 ^ 62) b → unsigned_abs (a *ℤ b) < 2 ^ 126
product_small a b p q = let h : IsWithin (2 ^ 62 * 2 ^ 62) (a *ℤ b) = IsWithin-*ℤ (2 ^ 62) (2 ^ 62) a b p q in omega (arith, h.within)

pub sizes_small : (a b : ℤ) → IsWithin (2 ^ 62) a → IsWithin (2 ^ 62) b → unsigned_abs a * unsigned_abs b < 2 ^ 126
sizes_small a b p q = let h : unsigned_abs a * unsigned_abs b ≤ 2 ^ 62 * 2 ^ 62 = mul-le-mul p.within q.within in omega arith

-- the product of two such numbers, each read back from its bits
pub read_product : (a b : ℤ) → IsWithin (2 ^ 62) a → IsWithin (2 ^ 62) b → to_z w128 (of_z w128 (to_z w128 (of_z w128 a) *ℤ to_z w128 (of_z w128 b))) ≡ a *ℤ b
read_product a b p q = ap₂ (λ x y. to_z w128 (of_z w128 (x *ℤ y))) (read_small a p) (read_small b q) ∙ read_wide (a *ℤ b) (product_small a b p q)

-- a number of 62 bits that was cast to 64 bits and back
pub read_cast : (z : ℤ) → SFits w128 z → IsWithin (2 ^ 62) z → to_z w64 (of_z w64 (to_z w128 (of_z w128 z))) ≡ z
read_cast z fits small = ap (λ y. to_z w64 (of_z w64 y)) (read z fits) ∙ to_z-of_z w64 z (fits_from_IsWithin w64 (2 ^ 62) z small (lit< tt))

-- two products of such numbers
pub two_products_small : (a b c d : ℤ) → IsWithin (2 ^ 62) a → IsWithin (2 ^ 62) b → IsWithin (2 ^ 62) c → IsWithin (2 ^ 62) d → unsigned_abs a * unsigned_abs b + unsigned_abs c * unsigned_abs d < 2 ^ 126
two_products_small a b c d p q r s =
    let first : unsigned_abs a * unsigned_abs b ≤ 2 ^ 62 * 2 ^ 62 = mul-le-mul p.within q.within in
    let second : unsigned_abs c * unsigned_abs d ≤ 2 ^ 62 * 2 ^ 62 = mul-le-mul r.within s.within in
    omega (arith, first, second)
