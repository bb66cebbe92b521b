use Rattle.std.proofs.Common.{◌≡◌, ◌++◌}
use Rattle.md_math.specs.Lists.{up_to}
use Rattle.md_rows.specs.Costs.{revenue_costs_of}
use Rattle.md_rows.proofs.costs.push_revenue_costs.Given as goal

abbrev pub invariant-loop-agent : goal.invariant-loop-agent
invariant-loop-agent l = l.cost ≡ l.fn.cost ++ up_to l._agent (λ _. revenue_costs_of l.setting l.sign)
