use Rattle.std.proofs.Common.{◌≡◌, to_z, of_z}
use mir.Syntax.{w128}
use Rattle.std.proofs.lemmas.Int.{to_z-of_z}
use Rattle.md_math.proofs.Bits.{read_result}
use Rattle.md_math.proofs.Builders.{push-list}
use Rattle.md_asym_sale.specs.Costs.{pay_cost}
use Rattle.md_asym_sale.proofs.costs.push_pay_costs.Goals as goal

pub loop-pair-preserved : goal.loop-pair-preserved
loop-pair-preserved c =
    let sign : to_z w128 (of_z w128 c.args.sign) ≡ c.args.sign = to_z-of_z w128 c.args.sign c.ranges.sign in
    rw sign
    (push-list c.args.cost.now c.loop-pair.cost c.push.new.self c.loop-pair.pair (pay_cost c.args.setting.now c.args.sign)
    c.pay_cost.result (rw sign at c.loop-pair.invariant) (rw (read_result c.pay_cost.result c.pay_cost.type_inv) at c.in_ok-push.ensures.ok) (rw sign at c.pay_cost.ensures))
