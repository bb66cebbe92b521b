use Rattle.std.proofs.Common.{arith}
use Rattle.md_math.proofs.ProductLaws.{factorial-step}
use Rattle.md_counts.proofs.weights.factorial.Goals as goal

pub overflow_mul-product : goal.overflow_mul-product
overflow_mul-product c =
    omega (arith, factorial-step c.loop-factor.factor c.args.number c.loop-factor.product c.from.result c.loop-factor-test.true c.requires c.loop-factor.invariant c.from.ensures)
