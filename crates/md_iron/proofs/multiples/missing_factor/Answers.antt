use Rattle.std.proofs.lemmas.Int.{to_z-of_z}
use mir.Syntax.{w128}
use Rattle.md_math.specs.Divisors.{IsGcdOfTwo}
use Rattle.md_math.proofs.Bits.{read_result}
use Rattle.md_math.proofs.Division.{positive_divisor}
use Rattle.md_iron.proofs.LeastMultiples.{IsMultipleOfTwo-gcd}
use Rattle.md_iron.proofs.multiples.missing_factor.Goals as goal

common : (c : goal.After-gcd) → IsGcdOfTwo c.args.a c.args.b c.gcd.result
common c = rw (to_z-of_z w128 c.args.a c.ranges.a, to_z-of_z w128 c.args.b c.ranges.b) at c.gcd.ensures.divisor

pub exact_quotient-requires-clause-positive : goal.exact_quotient-requires-clause-positive
exact_quotient-requires-clause-positive c =
    rw (read_result c.gcd.result c.gcd.type_inv) (positive_divisor c.args.a c.gcd.result c.requires.left (common c).left (common c).nonneg)

pub exact_quotient-requires-clause-exact : goal.exact_quotient-requires-clause-exact
exact_quotient-requires-clause-exact c =
    rw (read_result c.gcd.result c.gcd.type_inv, to_z-of_z w128 c.args.b c.ranges.b) (common c).right

pub returns : goal.returns
returns c =
    let divisor : IsGcdOfTwo c.args.a c.args.b c.gcd.result = rw (to_z-of_z w128 c.args.a c.ranges.a, to_z-of_z w128 c.args.b c.ranges.b) at c.gcd.ensures.divisor in
    rw (read_result c.exact_quotient.result c.exact_quotient.type_inv)
    (IsMultipleOfTwo-gcd c.args.a c.args.b c.gcd.result c.exact_quotient.result c.requires.left c.requires.right divisor
    (rw (read_result c.gcd.result c.gcd.type_inv, to_z-of_z w128 c.args.b c.ranges.b) at c.exact_quotient.ensures.value))
