use mir.Syntax.{w128}
use Rattle.std.proofs.lemmas.Int.{to_z-of_z}
use Rattle.md_math.proofs.Bits.{read_result}
use Rattle.md_asym.proofs.worth.sale_worth.Goals as goal

pub returns-clause-value : goal.returns-clause-value
returns-clause-value c =
    rw (read_result c.worth_over_whole.result c.worth_over_whole.type_inv, read_result c.whole.result c.whole.type_inv, c.worth_over_whole.ensures.value, c.whole.ensures.value, to_z-of_z w128 c.args.den c.ranges.den) at c.reduced.ensures.value
