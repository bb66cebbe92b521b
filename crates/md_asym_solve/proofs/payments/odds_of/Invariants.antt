use Rattle.std.proofs.Common.{◌≡◌}
use Rattle.md_math.specs.Lists.{list_to, number_at}
use Rattle.md_asym_solve.proofs.payments.odds_of.Given as goal

abbrev pub invariant-loop-pair : goal.invariant-loop-pair
invariant-loop-pair l = l.odds ≡ list_to l.pair (number_at l.point)
