-- The version that a setting is written in.
use Rattle.std.proofs.Common.{◌≡◌, Bool, ◌||◌, List, [], ◌∷◌, map, is_some, refl, ap}
use Rattle.std.specs.List.{list_any}
use Rattle.md_setting.specs.declared.raw.RawAgent.{RawAgent}
use Rattle.md_setting.specs.Setting.{written_agent}

pub any_written : (agents : List RawAgent) → list_any (λ agent. is_some agent.at) (map written_agent agents) ≡ list_any (λ agent. is_some (written_agent agent).at) agents
any_written [] = refl
any_written (agent ∷ agents) = ap (λ b. is_some (written_agent agent).at || b) (any_written agents)
