use Rattle.std.proofs.Common.{◌≡◌, map}
use Rattle.md_math.specs.Lists.{list_to}
use Rattle.md_mech.specs.RowName.{agent_name}
use Rattle.md_conditions_text.proofs.names.agent_names.Given as goal

abbrev pub invariant-loop-agent : goal.invariant-loop-agent
invariant-loop-agent l = map (λ name. name.now) l.names.items ≡ list_to l.agent (agent_name l.setting)
