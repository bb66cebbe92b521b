use Rattle.std.proofs.Common.{take}
use Rattle.md_require.specs.Standings.{AreStandings}
use Rattle.md_require.proofs.standing.standings.Given as goal

abbrev pub invariant-loop-condition : goal.invariant-loop-condition
invariant-loop-condition l = AreStandings l.setting l.mechanism (take l.condition-index l.conditions) l.standings.items
