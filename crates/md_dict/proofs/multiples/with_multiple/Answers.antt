use Rattle.std.proofs.Common.{◌≡◌, ◌^◌, ◌<◌, ◌*ℤ◌, refl, subst}
use Rattle.std.proofs.lemmas.Int.{to_z-of_z, unsigned_abs-mul}
use mir.Syntax.{w128}
use Rattle.md_math.proofs.Bits.{read_result}
use Rattle.md_dict.specs.Multiples.{IsMultipleOfTwo}
use Rattle.md_dict.proofs.LeastMultiples.{IsMultipleOfTwo-divides, small_factor, small_multiple, small_multiple_of_two}
use Rattle.md_dict.proofs.multiples.with_multiple.Goals as goal

pub returns-then-divides-clause-multiple : goal.returns-then-divides-clause-multiple
returns-then-divides-clause-multiple c =
    rw (to_z-of_z w128 c.args.multiple c.ranges.multiple)
    (IsMultipleOfTwo-divides c.args.multiple c.args.den c.requires.multiple
    (rw (to_z-of_z w128 c.args.multiple c.ranges.multiple, to_z-of_z w128 c.args.den c.ranges.den) at c.if-divides.ensures.0 refl))

pub returns-then-divides-clause-size : goal.returns-then-divides-clause-size
returns-then-divides-clause-size c = rw (to_z-of_z w128 c.args.multiple c.ranges.multiple) (small_multiple c.args.multiple c.args.den c.requires.room)

pub missing_factor-requires-clause-multiple_size : goal.missing_factor-requires-clause-multiple_size
missing_factor-requires-clause-multiple_size c = rw (to_z-of_z w128 c.args.multiple c.ranges.multiple) (small_multiple c.args.multiple c.args.den c.requires.room)

pub missing_factor-requires-clause-number_size : goal.missing_factor-requires-clause-number_size
missing_factor-requires-clause-number_size c = rw (to_z-of_z w128 c.args.den c.ranges.den) (small_factor c.args.multiple c.args.den c.requires.room)

pub product-requires : goal.product-requires
product-requires c =
    let least : IsMultipleOfTwo c.args.multiple c.args.den (c.args.multiple *ℤ c.missing_factor.result) = rw (to_z-of_z w128 c.args.multiple c.ranges.multiple, to_z-of_z w128 c.args.den c.ranges.den) at c.missing_factor.ensures in
    rw (to_z-of_z w128 c.args.multiple c.ranges.multiple, read_result c.missing_factor.result c.missing_factor.type_inv)
    (subst (λ k. k < 2 ^ 126) (unsigned_abs-mul c.args.multiple c.missing_factor.result) (small_multiple_of_two c.args.multiple c.args.den _ c.requires.room least))

pub returns-clause-multiple : goal.returns-clause-multiple
returns-clause-multiple c =
    let least : IsMultipleOfTwo c.args.multiple c.args.den (c.args.multiple *ℤ c.missing_factor.result) = rw (to_z-of_z w128 c.args.multiple c.ranges.multiple, to_z-of_z w128 c.args.den c.ranges.den) at c.missing_factor.ensures in
    let product : c.product.result ≡ c.args.multiple *ℤ c.missing_factor.result = rw (to_z-of_z w128 c.args.multiple c.ranges.multiple, read_result c.missing_factor.result c.missing_factor.type_inv) at c.product.ensures.value in
    rw (read_result c.product.result c.product.type_inv, product) least

pub returns-clause-size : goal.returns-clause-size
returns-clause-size c =
    let least : IsMultipleOfTwo c.args.multiple c.args.den (c.args.multiple *ℤ c.missing_factor.result) = rw (to_z-of_z w128 c.args.multiple c.ranges.multiple, to_z-of_z w128 c.args.den c.ranges.den) at c.missing_factor.ensures in
    let product : c.product.result ≡ c.args.multiple *ℤ c.missing_factor.result = rw (to_z-of_z w128 c.args.multiple c.ranges.multiple, read_result c.missing_factor.result c.missing_factor.type_inv) at c.product.ensures.value in
    rw (read_result c.product.result c.product.type_inv, product) (small_multiple_of_two c.args.multiple c.args.den _ c.requires.room least)
