use Rattle.md_math.specs.Lists.{up_to}
use Rattle.md_forms.specs.Built.{Extends}
use Rattle.md_require.specs.Named.{forms_at}
use Rattle.md_require.proofs.program.push_condition.Given as goal

abbrev pub invariant-loop-rank : goal.invariant-loop-rank
invariant-loop-rank l = Extends (up_to l.rank (forms_at l.setting l.condition)) l.fn.lp l.lp
