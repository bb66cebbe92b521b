use Rattle.std.proofs.lemmas.Int.{to_z-of_z}
use mir.Syntax.{w128}
use Rattle.md_math.specs.Divisors.{IsGcdOfTwo}
use Rattle.md_math.proofs.Bits.{read_result}
use Rattle.md_math.proofs.Division.{positive_divisor}
use Rattle.md_dict.proofs.LeastMultiples.{IsMultipleOfTwo-gcd}
use Rattle.md_dict.proofs.multiples.missing_factor.Goals as goal

pub exact_quotient-requires-clause-positive : goal.exact_quotient-requires-clause-positive
exact_quotient-requires-clause-positive c =
    let common : IsGcdOfTwo c.args.multiple c.args.number c.common_divisor.result = rw (to_z-of_z w128 c.args.multiple c.ranges.multiple, to_z-of_z w128 c.args.number c.ranges.number) at c.common_divisor.ensures.divisor in
    rw (read_result c.common_divisor.result c.common_divisor.type_inv) (positive_divisor c.args.multiple c.common_divisor.result c.requires.multiple common.left common.nonneg)

pub exact_quotient-requires-clause-exact : goal.exact_quotient-requires-clause-exact
exact_quotient-requires-clause-exact c =
    let common : IsGcdOfTwo c.args.multiple c.args.number c.common_divisor.result = rw (to_z-of_z w128 c.args.multiple c.ranges.multiple, to_z-of_z w128 c.args.number c.ranges.number) at c.common_divisor.ensures.divisor in
    rw (read_result c.common_divisor.result c.common_divisor.type_inv, to_z-of_z w128 c.args.number c.ranges.number) common.right

pub returns : goal.returns
returns c =
    let common : IsGcdOfTwo c.args.multiple c.args.number c.common_divisor.result = rw (to_z-of_z w128 c.args.multiple c.ranges.multiple, to_z-of_z w128 c.args.number c.ranges.number) at c.common_divisor.ensures.divisor in
    rw (read_result c.exact_quotient.result c.exact_quotient.type_inv)
    (IsMultipleOfTwo-gcd c.args.multiple c.args.number c.common_divisor.result c.exact_quotient.result c.requires.multiple c.requires.number common
    (rw (read_result c.common_divisor.result c.common_divisor.type_inv, to_z-of_z w128 c.args.number c.ranges.number) at c.exact_quotient.ensures.value))
