use Rattle.std.proofs.Common.{◌≡◌, to_z, of_z}
use mir.Syntax.{w128}
use Rattle.std.proofs.lemmas.Int.{to_z-of_z}
use Rattle.md_math.proofs.Bits.{read_result}
use Rattle.md_math.proofs.Builders.{push-list}
use Rattle.md_rows.specs.Costs.{revenue_cost}
use Rattle.md_rows.proofs.costs.push_revenue_costs_of.Goals as goal

pub loop-rank-preserved : goal.loop-rank-preserved
loop-rank-preserved c =
    let sign : to_z w128 (of_z w128 c.args.sign) ≡ c.args.sign = to_z-of_z w128 c.args.sign c.ranges.sign in
    rw sign
    (push-list c.args.cost.now c.loop-rank.cost c.push.new.self c.loop-rank.rank (revenue_cost c.args.setting.now c.args.sign)
    c.revenue_cost.result (rw sign at c.loop-rank.invariant) (rw (read_result c.revenue_cost.result c.revenue_cost.type_inv) at c.in_ok-push.ensures.ok) (rw sign at c.revenue_cost.ensures))
