use Rattle.std.proofs.Common.{◌≡◌, take, map, option_map}
use Rattle.toml.specs.Data.{table}
use Rattle.toml.specs.View.{items_view}
use Rattle.md_setting.specs.Setting.{written_agent}
use Rattle.md_toml.specs.Writing.{items_from, agent_table}
use Rattle.md_toml.proofs.write.agents_value.Given as goal

-- the items so far
abbrev pub invariant-loop-agent : goal.invariant-loop-agent
invariant-loop-agent l = items_view l.tables.items ≡ items_from (λ agent. table (agent_table (option_map (λ weights. weights.items) l.prior) agent)) (map written_agent (take l.agent-index l.agents))
