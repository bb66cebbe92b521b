-- Numbers that were cast to fewer bits and back.
use Rattle.std.proofs.Common.{◌≡◌, ℕ, ◌^◌, ◌<◌, ℤ, to_z, of_z, ap, ◌∙◌, arith}
use Rattle.std.proofs.lemmas.Int.{to_z-of_z, fits_signed_from_abs}
use mir.Syntax.{w128, w64}
use Rattle.md_math.specs.Sizes.{IsWithin}

-- a number that was cast to 64 bits and back
pub cast_back : (limit : ℕ) (z : ℤ) → IsWithin limit z → limit < 2 ^ 63 → to_z w64 (of_z w64 (to_z w128 (of_z w128 z))) ≡ z
cast_back limit z h l =
    let wide : to_z w128 (of_z w128 z) ≡ z = to_z-of_z w128 z (fits_signed_from_abs w128 z (omega (arith, h.within))) in
    ap (λ y. to_z w64 (of_z w64 y)) wide ∙ to_z-of_z w64 z (fits_signed_from_abs w64 z (omega (arith, h.within)))
