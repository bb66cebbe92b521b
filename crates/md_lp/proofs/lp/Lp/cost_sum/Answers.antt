use Rattle.std.proofs.Common.{◌≡◌, arith}
use Rattle.std.proofs.lemmas.Grind.{common_steps}
use Rattle.md_math.specs.Lists.{number_at}
use Rattle.md_math.proofs.Bits.{read_result}
use Rattle.md_lp.specs.Point.{cost_sum}
use Rattle.md_lp.proofs.ColumnRuns.{cost_sum-within}
use Rattle.md_lp.proofs.lp.Lp.cost_sum.Goals as goal

pub returns-clause-size : goal.returns-clause-size
returns-clause-size c =
    let value : c.sum_of_products.result ≡ cost_sum c.args.self.now (number_at c.args.numbers.now) = grind (arith, common_steps) in
    rw (read_result c.sum_of_products.result c.sum_of_products.type_inv, value)
    (cost_sum-within c.args.self.now c.args.numbers.now (rw (← c.self.view_is) c.self.invariant) c.requires.sizes)
