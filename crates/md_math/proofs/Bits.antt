-- Numbers that went to their bits and are read again.
use Rattle.std.proofs.Common.{◌≡◌, ℕ, ◌^◌, ◌<◌, ℤ, to_z, of_z}
use Rattle.std.proofs.lemmas.Int.{to_z-of_z}
use lib.Signed.{mag}
use mir.Syntax.{w128, w64}
use Rattle.md_math.specs.Sizes.{IsWithin}
use Rattle.md_math.proofs.SizeLaws.{fits_from_IsWithin}

-- what is known of a call's result, of 128 bits and of 64
pub read_result : (z : ℤ) → mag z < 2 ^ 127 → to_z w128 (of_z w128 z) ≡ z
read_result z fits = to_z-of_z w128 z (record { sfits = fits })

pub read_short_result : (z : ℤ) → mag z < 2 ^ 63 → to_z w64 (of_z w64 z) ≡ z
read_short_result z fits = to_z-of_z w64 z (record { sfits = fits })

-- a number with a limit, at 128 bits and at 64
pub read_within : (limit : ℕ) (z : ℤ) → IsWithin limit z → limit < 2 ^ 127 → to_z w128 (of_z w128 z) ≡ z
read_within limit z small l = to_z-of_z w128 z (fits_from_IsWithin w128 limit z small l)

pub read_short_within : (limit : ℕ) (z : ℤ) → IsWithin limit z → limit < 2 ^ 63 → to_z w64 (of_z w64 z) ≡ z
read_short_within limit z small l = to_z-of_z w64 z (fits_from_IsWithin w64 limit z small l)
