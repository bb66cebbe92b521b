use Rattle.std.proofs.Common.{◌≡◌, map, take, string_bytes}
use Rattle.md_setting.specs.Setting.{written_agent}
use Rattle.md_setting.proofs.numbering.agent_numbers.Given as goal

abbrev pub invariant-loop-agent : goal.invariant-loop-agent
invariant-loop-agent l = map string_bytes l.set.keys ≡ map (λ agent. (written_agent agent).name) (take l.agent-index l.agents)
