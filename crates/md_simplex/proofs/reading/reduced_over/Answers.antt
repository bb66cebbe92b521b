use Rattle.std.proofs.Common.{◌+◌, length, suc, arith}
use mir.Syntax.{w128}
use Rattle.std.proofs.lemmas.Int.{to_z-of_z}
use Rattle.md_math.specs.Lists.{number_at}
use Rattle.md_math.proofs.Bits.{read_result}
use Rattle.md_lp.proofs.Dividing.{IsDivisorFor-positive}
use Rattle.md_simplex.specs.Reading.{with_den}
use Rattle.md_simplex.proofs.Reduced.{gcd-positive, read_over}
use Rattle.md_simplex.proofs.reading.reduced_over.Goals as goal

pub exact_quotient-requires-clause-positive : goal.exact_quotient-requires-clause-positive
exact_quotient-requires-clause-positive c =
    let n = length c.args.numbers.now in
    let f = with_den c.args.den (number_at c.args.numbers.now) in
    let gcd = rw (to_z-of_z w128 c.args.den c.ranges.den) at c.common_divisor-by.ensures in
    rw (read_result c.common_divisor-by.result c.common_divisor-by.type_inv)
    (IsDivisorFor-positive (n + 1) f c.common_divisor-by.result (gcd-positive (n + 1) 0 f c.common_divisor-by.result gcd (omega arith) c.requires.positive))

pub exact_quotient-requires-clause-exact : goal.exact_quotient-requires-clause-exact
exact_quotient-requires-clause-exact c =
    let gcd = rw (to_z-of_z w128 c.args.den c.ranges.den) at c.common_divisor-by.ensures in
    rw (read_result c.common_divisor-by.result c.common_divisor-by.type_inv, to_z-of_z w128 c.args.den c.ranges.den) (gcd.common.at 0 (omega arith))

pub quotients-requires-clause-exact : goal.quotients-requires-clause-exact
quotients-requires-clause-exact c k b =
    let gcd = rw (to_z-of_z w128 c.args.den c.ranges.den) at c.common_divisor-by.ensures in
    rw (read_result c.common_divisor-by.result c.common_divisor-by.type_inv) (gcd.common.at (suc k) (omega arith))

pub returns : goal.returns
returns c =
    let n = length c.args.numbers.now in
    let f = with_den c.args.den (number_at c.args.numbers.now) in
    let gcd = rw (to_z-of_z w128 c.args.den c.ranges.den) at c.common_divisor-by.ensures in
    let over = rw (read_result c.common_divisor-by.result c.common_divisor-by.type_inv, to_z-of_z w128 c.args.den c.ranges.den) at c.exact_quotient.ensures.value in
    let divided = rw (read_result c.common_divisor-by.result c.common_divisor-by.type_inv) at c.in_ok-quotients.ensures in
    rw (read_result c.exact_quotient.result c.exact_quotient.type_inv)
    (read_over n c.args.den (number_at c.args.numbers.now) c.common_divisor-by.result c.exact_quotient.result c.in_ok-quotients.field-0
    (gcd-positive (n + 1) 0 f c.common_divisor-by.result gcd (omega arith) c.requires.positive) over divided)
