use Rattle.std.proofs.Common.{◌≡◌, pos}
use Rattle.md_math.specs.Lists.{list_to}
use Rattle.md_fair.proofs.costs.cost.Given as goal

abbrev pub invariant-loop-column : goal.invariant-loop-column
invariant-loop-column l = l.cost ≡ list_to l._column (λ _. pos 0)
