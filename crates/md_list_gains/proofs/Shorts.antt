-- Sums, differences and products of 64 bits, read back from their bits with the numbers that they stand for.
use Rattle.std.proofs.Common.{◌≡◌, ℕ, ◌^◌, ◌<◌, ℤ, to_z, of_z, FitsSigned, sym, ap₂, ◌∙◌, subst}
use lib.Signed.{mag}
use mir.Syntax.{w64}
use Rattle.md_math.specs.Sizes.{IsWithin}
use Rattle.md_math.proofs.Bits.{read_short_result}
use Rattle.md_math.proofs.SizeLaws.{fits_from_IsWithin}

-- a number x, which is at 64 bits and stands for z
pub record IsShort (x z : ℤ) : Type 0 where
  pub fits : mag x < 2 ^ 63
  pub is : x ≡ z

pub read-short : (x z : ℤ) → IsShort x z → to_z w64 (of_z w64 x) ≡ z
read-short x z h = read_short_result x h.fits ∙ h.is

pub short-fits : (x z : ℤ) → IsShort x z → FitsSigned w64 x
short-fits x z h = record { sfits = h.fits }

-- what a call gave, and what is within a limit
pub short-of : (x z : ℤ) → mag x < 2 ^ 63 → x ≡ z → IsShort x z
short-of x z fits same = record { fits = fits; is = same }

pub short-within : (limit : ℕ) (x z : ℤ) → x ≡ z → IsWithin limit z → limit < 2 ^ 63 → IsShort x z
short-within limit x z same h l = record { fits = subst (λ y. mag y < 2 ^ 63) (sym same) (fits_from_IsWithin w64 limit z h l).sfits; is = same }

-- a sum, a difference or a product
pub short-both : (op : ℤ → ℤ → ℤ) (limit : ℕ) (x y a b : ℤ) → IsShort x a → IsShort y b → IsWithin limit (op a b) → limit < 2 ^ 63
    → IsShort (op (to_z w64 (of_z w64 x)) (to_z w64 (of_z w64 y))) (op a b)
short-both op limit x y a b p q h l = short-within limit (op (to_z w64 (of_z w64 x)) (to_z w64 (of_z w64 y))) (op a b) (ap₂ op (read-short x a p) (read-short y b q)) h l
