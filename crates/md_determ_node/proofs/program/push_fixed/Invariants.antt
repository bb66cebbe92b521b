use Rattle.md_math.specs.Lists.{up_to}
use Rattle.md_forms.specs.Built.{Extends}
use Rattle.md_determ_node.specs.NodeProgram.{forms_at}
use Rattle.md_determ_node.proofs.program.push_fixed.Given as goal

abbrev pub invariant-loop-rank : goal.invariant-loop-rank
invariant-loop-rank l = Extends (up_to l.rank (forms_at l.setting l.fixed)) l.fn.lp l.lp
