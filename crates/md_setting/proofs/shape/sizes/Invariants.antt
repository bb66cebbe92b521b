use Rattle.std.proofs.Common.{◌≡◌, map, take, vec_len}
use Rattle.md_setting.proofs.shape.sizes.Given as goal

abbrev pub invariant-loop-agent : goal.invariant-loop-agent
invariant-loop-agent l = l.sizes.items ≡ map (λ agent. vec_len agent.types) (take l.agent-index l.agents)
