-- The names of a setting, and the places at which they stand.
use Rattle.std.specs.Prelude.{ℕ, List, map, Option, position}
use Rattle.std.specs.Str.{bytes_eq}
use Rattle.md_setting.specs.Setting.{GeneralSetting}
use Rattle.md_setting.specs.Meaning.{agent_at}

-- the names of the agents, and of the types of one
abbrev pub agent_names : GeneralSetting → List (List ℕ)
agent_names s = map (λ agent. agent.name) s.agents

abbrev pub type_names : GeneralSetting → ℕ → List (List ℕ)
type_names s i = (agent_at s i).types

-- the place of a name among some names
abbrev pub place_of : List (List ℕ) → List ℕ → Option ℕ
place_of names name = position (bytes_eq name) names
