use Rattle.md_math.specs.Lists.{list_to}
use Rattle.md_forms.specs.Built.{Extends}
use Rattle.md_fair.specs.FairProgram.{agent_form}
use Rattle.md_fair.proofs.program.push_agents.Given as goal

abbrev pub invariant-loop-agent : goal.invariant-loop-agent
invariant-loop-agent l = Extends (list_to l.agent (agent_form l.setting)) l.fn.lp l.lp
