-- The difference of two products of numbers of 62 bits.
use Rattle.std.proofs.Common.{◌+◌, ◌*◌, ◌^◌, ◌<◌, ℤ, ◌-ℤ◌, ◌*ℤ◌, FitsSigned, unsigned_abs, lit<, arith}
use mir.Syntax.{w128}
use Rattle.md_math.specs.Sizes.{IsWithin}
use Rattle.md_math.proofs.SizeLaws.{fits_from_IsWithin, IsWithin-*ℤ, IsWithin-sub}

pub record IsShort (a b c d : ℤ) : Type 0 where
  pub first_fits : FitsSigned w128 (a *ℤ b)
  pub second_fits : FitsSigned w128 (c *ℤ d)
  pub fits : FitsSigned w128 (a *ℤ b -ℤ c *ℤ d)
  pub size : unsigned_abs (a *ℤ b -ℤ c *ℤ d) < 2 ^ 126

pub are_short : (a b c d : ℤ) → IsWithin (2 ^ 62) a → IsWithin (2 ^ 62) b → IsWithin (2 ^ 62) c → IsWithin (2 ^ 62) d → IsShort a b c d
are_short a b c d p q r s =
    let first : IsWithin (2 ^ 62 * 2 ^ 62) (a *ℤ b) = IsWithin-*ℤ (2 ^ 62) (2 ^ 62) a b p q in
    let second : IsWithin (2 ^ 62 * 2 ^ 62) (c *ℤ d) = IsWithin-*ℤ (2 ^ 62) (2 ^ 62) c d r s in
    let whole : IsWithin (2 ^ 62 * 2 ^ 62 + 2 ^ 62 * 2 ^ 62) (a *ℤ b -ℤ c *ℤ d) = IsWithin-sub (2 ^ 62 * 2 ^ 62) (2 ^ 62 * 2 ^ 62) (a *ℤ b) (c *ℤ d) first second in
    record {
      first_fits = fits_from_IsWithin w128 (2 ^ 62 * 2 ^ 62) (a *ℤ b) first (lit< tt);
      second_fits = fits_from_IsWithin w128 (2 ^ 62 * 2 ^ 62) (c *ℤ d) second (lit< tt);
      fits = fits_from_IsWithin w128 (2 ^ 62 * 2 ^ 62 + 2 ^ 62 * 2 ^ 62) (a *ℤ b -ℤ c *ℤ d) whole (lit< tt);
      size = omega (arith, whole.within);
    }
