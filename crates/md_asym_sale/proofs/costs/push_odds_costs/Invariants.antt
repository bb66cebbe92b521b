use Rattle.std.proofs.Common.{◌≡◌, ◌++◌}
use Rattle.md_math.specs.Lists.{list_to}
use Rattle.md_asym_sale.specs.Costs.{odds_cost}
use Rattle.md_asym_sale.proofs.costs.push_odds_costs.Given as goal

abbrev pub invariant-loop-pair : goal.invariant-loop-pair
invariant-loop-pair l = l.cost ≡ l.fn.cost ++ list_to l.pair (odds_cost l.setting)
