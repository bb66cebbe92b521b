use Rattle.md_math.proofs.Bits.{read_result}
use Rattle.md_math.proofs.Builders.{push-list}
use Rattle.md_reduced.specs.Costs.{odds_cost}
use Rattle.md_reduced.proofs.costs.push_odds_costs.Goals as goal

pub loop-kind-preserved : goal.loop-kind-preserved
loop-kind-preserved c =
    push-list c.args.cost.now c.loop-kind.cost c.push.new.self c.loop-kind.kind (odds_cost c.args.auction.now)
    c.odds_cost.result c.loop-kind.invariant (rw (read_result c.odds_cost.result c.odds_cost.type_inv) at c.in_ok-push.ensures.ok) c.odds_cost.ensures
