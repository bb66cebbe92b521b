use Rattle.std.proofs.Common.{length}
use Rattle.std.proofs.lemmas.Result.{IfOk-weaker}
use Rattle.md_math.specs.Lists.{number_at}
use Rattle.md_math.proofs.Bits.{read_result}
use Rattle.md_lp.proofs.Dividing.{IsDivisorFor-positive, IsDivisorFor-divides}
use Rattle.md_simplex.specs.Reading.{IsReadList}
use Rattle.md_simplex.specs.ReadingSteps.{AreQuotients}
use Rattle.md_simplex.proofs.Reduced.{gcd-without_zero, read_list}
use Rattle.md_simplex.proofs.reading.reduced.Goals as goal

pub quotients-requires-clause-positive : goal.quotients-requires-clause-positive
quotients-requires-clause-positive c =
    let n = length c.args.numbers.now in
    let f = number_at c.args.numbers.now in
    let given = rw (read_result c.common_divisor.result c.common_divisor.type_inv) at c.divisor_from-by.ensures in
    rw (read_result c.divisor_from-by.result c.divisor_from-by.type_inv) (IsDivisorFor-positive n f c.divisor_from-by.result (given n f (gcd-without_zero n f c.common_divisor.result c.common_divisor.ensures)))

pub quotients-requires-clause-exact : goal.quotients-requires-clause-exact
quotients-requires-clause-exact c =
    let n = length c.args.numbers.now in
    let f = number_at c.args.numbers.now in
    let given = rw (read_result c.common_divisor.result c.common_divisor.type_inv) at c.divisor_from-by.ensures in
    rw (read_result c.divisor_from-by.result c.divisor_from-by.type_inv) (IsDivisorFor-divides n f c.divisor_from-by.result (given n f (gcd-without_zero n f c.common_divisor.result c.common_divisor.ensures)))

pub returns : goal.returns
returns c =
    let n = length c.args.numbers.now in
    let f = number_at c.args.numbers.now in
    let given = rw (read_result c.common_divisor.result c.common_divisor.type_inv) at c.divisor_from-by.ensures in
    let divided = rw (read_result c.divisor_from-by.result c.divisor_from-by.type_inv) at c.quotients.ensures in
    IfOk-weaker c.quotients.result (AreQuotients n c.divisor_from-by.result f) (IsReadList n f)
    (λ xs h. read_list n f c.divisor_from-by.result xs (given n f (gcd-without_zero n f c.common_divisor.result c.common_divisor.ensures)) h)
    divided
