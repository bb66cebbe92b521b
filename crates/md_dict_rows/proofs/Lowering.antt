-- What the multiplier and the factor of a combination have in common.
use Rattle.std.proofs.Common.{ℕ, ◌<◌, ◌≤◌, ◌^◌, ℤ, pos, ◌<ℤ◌, unsigned_abs, arith}
use Rattle.std.specs.Int.{IsGcd}
use Rattle.std.proofs.lemmas.Int.{ints}
use Rattle.std.proofs.Math.Nat as NatL
use Rattle.md_math.specs.Sizes.{IsWithin}
use Rattle.md_math.specs.Divisors.{Divides}

-- a number that divides both
pub record IsCommonOf (m f : ℤ) (g : ℕ) : Type 0 where
  pub positive : 0 < g
  pub size : g ≤ 2 ^ 62
  pub left : Divides (pos g) m
  pub right : Divides (pos g) f

pub common_of : (m f : ℤ) (g : ℕ) → pos 0 <ℤ m → IsWithin (2 ^ 62) m → IsGcd (unsigned_abs m) (unsigned_abs f) g → IsCommonOf m f g
common_of m f g p w h =
    let above : 0 < unsigned_abs m = omega (arith, ints, p) in
    let positive : 0 < g = NatL.pos_of_dvd_of_pos h.0 above in
    let le : g ≤ unsigned_abs m = NatL.le_of_dvd above h.0 in
    record { positive = positive; size = (let within = w.within in omega (arith, le, within)); left = record { divides = h.0 }; right = record { divides = h.1 } }
