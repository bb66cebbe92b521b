use Rattle.std.proofs.Common.{◌≡◌, true, take}
use Rattle.std.specs.List.{list_all}
use Rattle.md_setting.specs.Setting.{written_agent}
use Rattle.md_setting.specs.Refusals.{are_apart}
use Rattle.md_setting.proofs.names.are_types_apart.Given as goal

abbrev pub invariant-loop-agent : goal.invariant-loop-agent
invariant-loop-agent l = list_all (λ agent. are_apart (written_agent agent).types) (take l.agent-index l.agents) ≡ true
