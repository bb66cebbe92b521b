use Rattle.std.proofs.Common.{◌≡◌, map, take}
use Rattle.md_setting.specs.Setting.{written_agent}
use Rattle.md_setting.proofs.numbering.type_numbers.Given as goal

abbrev pub invariant-loop-agent : goal.invariant-loop-agent
invariant-loop-agent l = l.types.items ≡ map (λ agent. (written_agent agent).types) (take l.agent-index l.agents)
