-- Numbers of 64 bits that are made wider, and differences of products of them.
use Rattle.std.proofs.Common.{◌≡◌, ◌+◌, ◌*◌, ◌^◌, ◌<◌, ◌≤◌, ℤ, ◌-ℤ◌, ◌*ℤ◌, to_z, of_z, unsigned_abs, refl, ap₂, arith, mul-le-mul, lit<}
use lib.Signed.{mag}
use mir.Syntax.{w64, w128}
use Rattle.md_math.specs.Sizes.{IsWithin}
use Rattle.md_math.proofs.Readings.{IsRead, read, widened}
use Rattle.md_math.proofs.SizeLaws.{fits_from_IsWithin}

pub read-small : (x y : ℤ) → mag x < 2 ^ 127 → IsWithin (2 ^ 59) y → x ≡ to_z w64 (of_z w64 y) → IsRead x y
read-small x y fits h e = widened x y y fits (fits_from_IsWithin w64 (2 ^ 59) y h (lit< tt)).sfits e refl

pub cross-fits : (x y z w a b c d : ℤ) → IsRead x a → IsRead y b → IsRead z c → IsRead w d → IsWithin (2 ^ 59) a → IsWithin (2 ^ 59) b → IsWithin (2 ^ 59) c → IsWithin (2 ^ 59) d
    → unsigned_abs (to_z w128 (of_z w128 x)) * unsigned_abs (to_z w128 (of_z w128 y)) + unsigned_abs (to_z w128 (of_z w128 z)) * unsigned_abs (to_z w128 (of_z w128 w)) < 2 ^ 126
cross-fits x y z w a b c d p q r s h i j k =
    rw (read x a p, read y b q, read z c r, read w d s)
    (let first : unsigned_abs a * unsigned_abs b ≤ 2 ^ 59 * 2 ^ 59 = mul-le-mul h.within i.within in
    let second : unsigned_abs c * unsigned_abs d ≤ 2 ^ 59 * 2 ^ 59 = mul-le-mul j.within k.within in
    let small : 2 ^ 59 * 2 ^ 59 + 2 ^ 59 * 2 ^ 59 < 2 ^ 126 = lit< tt in
    omega (arith, first, second, small))

pub cross-is : (x y z w a b c d : ℤ) → IsRead x a → IsRead y b → IsRead z c → IsRead w d
    → to_z w128 (of_z w128 x) *ℤ to_z w128 (of_z w128 y) -ℤ to_z w128 (of_z w128 z) *ℤ to_z w128 (of_z w128 w) ≡ a *ℤ b -ℤ c *ℤ d
cross-is x y z w a b c d p q r s = ap₂ (λ u v. u -ℤ v) (ap₂ (λ u v. u *ℤ v) (read x a p) (read y b q)) (ap₂ (λ u v. u *ℤ v) (read z c r) (read w d s))
