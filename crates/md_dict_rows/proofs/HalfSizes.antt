-- Numbers of 32 bits and their sizes.
use Rattle.std.proofs.Common.{◌≡◌, ◌-◌, ◌^◌, ℤ, to_z, of_z, lit<, arith}
use Rattle.std.proofs.lemmas.Int.{ints, to_z-of_z}
use mir.Syntax.{w32, w64}
use Rattle.md_math.specs.Sizes.{IsWithin}
use Rattle.md_math.proofs.Bits.{read_short_within}
use Rattle.md_dict_rows.specs.Halves.{IsShort}

pub IsShort-from_within : (x : ℤ) → IsWithin (2 ^ 31 - 1) x → IsShort x
IsShort-from_within x h = let w = h.within in record { least = omega (arith, ints, w); most = omega (arith, ints, w) }

pub IsWithin-short : (x : ℤ) → IsShort x → IsWithin (2 ^ 31) x
IsWithin-short x h = let a = h.least in let b = h.most in record { within = omega (arith, ints, a, b) }

-- the same by 32 bits
pub read_half : (z : ℤ) → IsShort z → to_z w32 (of_z w32 z) ≡ z
read_half z h = let a = h.least in let b = h.most in to_z-of_z w32 z (omega (arith, ints, a, b))

pub read_short_number : (z : ℤ) → IsShort z → to_z w64 (of_z w64 z) ≡ z
read_short_number z h = read_short_within (2 ^ 31) z (IsWithin-short z h) (lit< tt)
