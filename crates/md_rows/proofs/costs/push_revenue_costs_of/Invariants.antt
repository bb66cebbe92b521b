use Rattle.std.proofs.Common.{◌≡◌, ◌++◌}
use Rattle.md_math.specs.Lists.{list_to}
use Rattle.md_rows.specs.Costs.{revenue_cost}
use Rattle.md_rows.proofs.costs.push_revenue_costs_of.Given as goal

abbrev pub invariant-loop-rank : goal.invariant-loop-rank
invariant-loop-rank l = l.cost ≡ l.fn.cost ++ list_to l.rank (revenue_cost l.setting l.sign)
