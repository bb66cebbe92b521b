use Rattle.std.proofs.Common.{sym, ◌∙◌}
use Rattle.md_math.proofs.Bits.{read_result}
use Rattle.md_border.proofs.SideLaws.{right_of-power, right_of-counts}
use Rattle.md_border.proofs.sides.right_side.Goals as goal

pub returns-clause-value : goal.returns-clause-value
returns-clause-value c = read_result c.right_side_for.result c.right_side_for.type_inv ∙ c.right_side_for.ensures.value ∙ sym (right_of-counts c.args.auction.now c.args.set)

pub returns-clause-power : goal.returns-clause-power
returns-clause-power c = returns-clause-value c ∙ right_of-power c.args.auction.now c.args.set c.right_side_for.ensures.shaped.one_each
