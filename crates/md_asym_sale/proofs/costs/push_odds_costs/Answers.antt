use Rattle.md_math.proofs.Bits.{read_result}
use Rattle.md_math.proofs.Builders.{push-list}
use Rattle.md_asym_sale.specs.Costs.{odds_cost}
use Rattle.md_asym_sale.proofs.costs.push_odds_costs.Goals as goal

pub loop-pair-preserved : goal.loop-pair-preserved
loop-pair-preserved c =
    push-list c.args.cost.now c.loop-pair.cost c.push.new.self c.loop-pair.pair (odds_cost c.args.setting.now)
    c.odds_cost.result c.loop-pair.invariant (rw (read_result c.odds_cost.result c.odds_cost.type_inv) at c.in_ok-push.ensures.ok) c.odds_cost.ensures
