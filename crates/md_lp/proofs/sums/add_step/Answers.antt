use Rattle.std.proofs.Common.{◌≡◌, ◌∙◌, ◌-◌, ◌*◌, ◌^◌, ◌+ℤ◌, ◌*ℤ◌, lit<, refl, arith}
use mir.Syntax.{w128, w64}
use Rattle.std.proofs.lemmas.Int.{to_z-of_z, fits_signed_from_abs}
use Rattle.md_math.specs.Sizes.{IsWithin}
use Rattle.md_math.proofs.SizeLaws.{IsWithin-*ℤ}
use Rattle.md_math.proofs.Bits.{read_within, read_short_within}
use Rattle.md_lp.proofs.Bits.{cast_back}
use Rattle.md_lp.proofs.SumSizes.{total_size}
use Rattle.md_lp.proofs.sums.add_step.Goals as goal
use Rattle.md_lp.proofs.sums.add_step.Goals.{After-from-2}

-- the two factors, their product and the sum, all of which keep their bits
value_is : (c : After-from-2) → c.from.result ≡ c.args.value
value_is c = c.from.ensures ∙ read_short_within (2 ^ 44) c.args.value c.requires.value (lit< tt)

number_is : (c : After-from-2) → c.from-2.result ≡ c.args.number
number_is c = c.from-2.ensures ∙ cast_back (2 ^ 62 - 1) c.args.number c.requires.number (lit< tt)

product_size : (c : After-from-2) → IsWithin (2 ^ 44 * (2 ^ 62 - 1)) (c.args.value *ℤ c.args.number)
product_size c = IsWithin-*ℤ (2 ^ 44) (2 ^ 62 - 1) c.args.value c.args.number c.requires.value c.requires.number

total : (c : After-from-2) → IsWithin (2 ^ 126) (c.args.sum +ℤ c.args.value *ℤ c.args.number)
total c = total_size c.args.sum c.args.value c.args.number c.requires.room

pub overflow_cast-number : goal.overflow_cast-number
overflow_cast-number c = rw (to_z-of_z w128 c.args.number c.ranges.number) (fits_signed_from_abs w64 c.args.number (omega (arith, c.requires.number.within)))

pub overflow_mul-result : goal.overflow_mul-result
overflow_mul-result c =
    rw (value_is c, number_is c, read_within (2 ^ 44) c.args.value c.requires.value (lit< tt), to_z-of_z w128 c.args.number c.ranges.number)
    (fits_signed_from_abs w128 (c.args.value *ℤ c.args.number) (omega (arith, (product_size c).within)))

pub overflow_add-result : goal.overflow_add-result
overflow_add-result c =
    rw (value_is c, number_is c, to_z-of_z w128 c.args.sum c.ranges.sum, read_within (2 ^ 44) c.args.value c.requires.value (lit< tt), to_z-of_z w128 c.args.number c.ranges.number, read_within (2 ^ 44 * (2 ^ 62 - 1)) (c.args.value *ℤ c.args.number) (product_size c) (lit< tt))
    (fits_signed_from_abs w128 (c.args.sum +ℤ c.args.value *ℤ c.args.number) (omega (arith, (total c).within)))

pub returns : goal.returns
returns c =
    rw (value_is c, number_is c, to_z-of_z w128 c.args.sum c.ranges.sum, read_within (2 ^ 44) c.args.value c.requires.value (lit< tt), to_z-of_z w128 c.args.number c.ranges.number, read_within (2 ^ 44 * (2 ^ 62 - 1)) (c.args.value *ℤ c.args.number) (product_size c) (lit< tt), read_within (2 ^ 126) (c.args.sum +ℤ c.args.value *ℤ c.args.number) (total c) (lit< tt))
    refl
