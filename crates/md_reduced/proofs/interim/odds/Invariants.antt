use Rattle.std.proofs.Common.{◌≡◌}
use Rattle.md_math.specs.Lists.{list_to, number_at}
use Rattle.md_reduced.proofs.interim.odds.Given as goal

abbrev pub invariant-loop-kind : goal.invariant-loop-kind
invariant-loop-kind l = l.odds ≡ list_to l.kind (number_at l.point)
