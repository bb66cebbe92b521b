use Rattle.std.proofs.Common.{◌≡◌, ◌++◌}
use Rattle.md_math.specs.Lists.{list_to}
use Rattle.md_reduced.specs.Costs.{pay_cost}
use Rattle.md_reduced.proofs.costs.push_pay_costs.Given as goal

abbrev pub invariant-loop-kind : goal.invariant-loop-kind
invariant-loop-kind l = l.cost ≡ l.fn.cost ++ list_to l.kind (pay_cost l.auction l.sign)
