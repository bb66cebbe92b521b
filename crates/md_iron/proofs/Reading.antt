-- Numbers of known sizes, read back from their bits under another name.
use Rattle.std.proofs.Common.{◌≡◌, ℕ, ◌^◌, ◌<◌, ℤ}
use Rattle.md_math.specs.Sizes.{IsWithin}
use Rattle.md_math.proofs.Readings.{IsRead, read_small}

pub read_named : (limit : ℕ) (x z : ℤ) → IsWithin limit x → limit < 2 ^ 127 → x ≡ z → IsRead x z
read_named limit x z h l e = record { fits = (read_small limit x h l).fits; is = e }
