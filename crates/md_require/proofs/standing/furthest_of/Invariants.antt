use Rattle.md_math.specs.Lists.{up_to}
use Rattle.md_require.specs.Furthest.{IsFurthestIfAny}
use Rattle.md_require.specs.Named.{amounts_at}
use Rattle.md_require.proofs.standing.furthest_of.Given as goal

abbrev pub invariant-loop-rank : goal.invariant-loop-rank
invariant-loop-rank l = IsFurthestIfAny l.setting l.mechanism l.condition.side (up_to l.rank (amounts_at l.setting l.condition.measured)) l.found
