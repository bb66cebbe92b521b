use Rattle.std.proofs.Common.{All}
use Rattle.md_math.specs.Lists.{up_to}
use Rattle.md_require.specs.Conditions.{Stays}
use Rattle.md_require.specs.Named.{amounts_at}
use Rattle.md_require.proofs.unmet.missed.Given as goal

abbrev pub invariant-loop-rank : goal.invariant-loop-rank
invariant-loop-rank l = All (Stays l.setting l.mechanism l.condition) (up_to l.rank (amounts_at l.setting l.condition.measured))
