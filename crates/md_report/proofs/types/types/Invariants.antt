use Rattle.md_math.specs.Lists.{up_to}
use Rattle.md_report.specs.Types.{types_of, AreTold}
use Rattle.md_report.proofs.types.types.Given as goal

abbrev pub invariant-loop-agent : goal.invariant-loop-agent
invariant-loop-agent l = AreTold l.setting l.mechanism (up_to l.agent (types_of l.setting)) l.told.items
