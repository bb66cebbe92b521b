use Rattle.std.proofs.Common.{◌≡◌, drop, map, option_map}
use Rattle.md_setting.specs.Setting.{written_agent}
use Rattle.md_toml.specs.Values.{members_of_all, read_each}
use Rattle.md_toml.specs.General.{agent_of}
use Rattle.md_toml.proofs.Each.{after}
use Rattle.md_toml.proofs.general.read_agents.Given as goal

abbrev pub invariant-loop-members : goal.invariant-loop-members
invariant-loop-members l =
    after (map written_agent l.agents.items) (read_each (agent_of l.version (option_map (λ weights. weights.items) l.prior)) (members_of_all (drop l.members-index l.tables)))
    ≡ read_each (agent_of l.version (option_map (λ weights. weights.items) l.prior)) (members_of_all l.tables)
