use Rattle.std.proofs.Common.{All, take}
use Rattle.md_require.specs.Conditions.{IsMet}
use Rattle.md_require.proofs.unmet.first_unmet.Given as goal

abbrev pub invariant-loop-number : goal.invariant-loop-number
invariant-loop-number l = All (IsMet l.setting l.mechanism) (take l.number l.conditions)
