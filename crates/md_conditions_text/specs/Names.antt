-- The names that records of conditions may have: those of agents, of an agent's types, of outcomes and of profiles, each in their order.
use Rattle.std.specs.Prelude.{ℕ, List, [], slice_index, slice_index_or}
use Rattle.md_math.specs.Lists.{list_to}
use Rattle.md_space.specs.Profiles.{profile_at, profile_count}
use Rattle.md_setting.specs.Setting.{GeneralSetting}
use Rattle.md_setting.specs.Meaning.{agent_count, outcome_count, sizes_of}
use Rattle.md_mech.specs.RowName.{agent_name, profile_name, type_name}

abbrev pub agent_names : GeneralSetting → List (List ℕ)
agent_names s = list_to (agent_count s) (agent_name s)

abbrev pub type_names : GeneralSetting → ℕ → List (List ℕ)
type_names s i = list_to (slice_index (sizes_of s) i) (type_name s i)

abbrev pub outcome_name : GeneralSetting → ℕ → List ℕ
outcome_name s o = slice_index_or s.outcomes o []

abbrev pub outcome_names : GeneralSetting → List (List ℕ)
outcome_names s = list_to (outcome_count s) (outcome_name s)

-- the names of the types of the profile of a rank, joined by `+`
abbrev pub name_at : GeneralSetting → ℕ → List ℕ
name_at s r = profile_name s (profile_at (sizes_of s) r)

abbrev pub profile_names : GeneralSetting → List (List ℕ)
profile_names s = list_to (profile_count (sizes_of s)) (name_at s)
