use Rattle.std.proofs.Common.{◌≡◌}
use Rattle.md_math.specs.Lists.{list_to, number_at}
use Rattle.md_reduced.specs.Sides.{pay_in}
use Rattle.md_reduced.proofs.interim.pays.Given as goal

abbrev pub invariant-loop-kind : goal.invariant-loop-kind
invariant-loop-kind l = l.pays ≡ list_to l.kind (pay_in l.auction (number_at l.point))
