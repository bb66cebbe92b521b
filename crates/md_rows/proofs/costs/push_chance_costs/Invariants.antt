use Rattle.std.proofs.Common.{◌≡◌, ◌++◌}
use Rattle.md_math.specs.Lists.{up_to}
use Rattle.md_rows.specs.Costs.{chance_costs_at}
use Rattle.md_rows.proofs.costs.push_chance_costs.Given as goal

abbrev pub invariant-loop-rank : goal.invariant-loop-rank
invariant-loop-rank l = l.cost ≡ l.fn.cost ++ up_to l.rank (chance_costs_at l.setting)
