-- The name of a condition: which it is, and at which agent, types, report and profile.
use Rattle.std.specs.Prelude.{ℕ, List, [], ◌∷◌, codes, slice_index, slice_index_or}
use Rattle.std.specs.List.{join_with_byte}
use Rattle.md_setting.specs.Setting.{Agent, GeneralSetting}
use Rattle.md_setting.specs.Meaning.{agent_at}
use Rattle.md_mech.specs.Rows.{Condition, dominant_row, bayes_row, ex_post_row, interim_row, deficit_row, profile_row}

abbrev pub agent_name : GeneralSetting → ℕ → List ℕ
agent_name s i = (agent_at s i).name

abbrev pub type_name : GeneralSetting → ℕ → ℕ → List ℕ
type_name s i a = slice_index_or (agent_at s i).types a []

-- the names of the types that a profile gives to some agents
abbrev pub type_names : List Agent → List ℕ → List (List ℕ)
type_names [] t = []
type_names (agent ∷ others) [] = []
type_names (agent ∷ others) (a ∷ t) = slice_index_or agent.types a [] ∷ type_names others t

-- the names of a profile's types, joined by `+`
abbrev pub profile_name : GeneralSetting → List ℕ → List ℕ
profile_name s t = join_with_byte 43 (type_names s.agents t)

-- some words, joined by `/`
abbrev pub path : List (List ℕ) → List ℕ
path words = join_with_byte 47 words

abbrev pub name_of : GeneralSetting → Condition → List ℕ
name_of s (dominant_row i t b) =
    path (codes "truth" ∷ agent_name s i ∷ type_name s i (slice_index t i) ∷ type_name s i b ∷ profile_name s t ∷ [])
name_of s (bayes_row i a b) = path (codes "truth" ∷ agent_name s i ∷ type_name s i a ∷ type_name s i b ∷ [])
name_of s (ex_post_row i t) = path (codes "rational" ∷ agent_name s i ∷ profile_name s t ∷ [])
name_of s (interim_row i a) = path (codes "rational" ∷ agent_name s i ∷ type_name s i a ∷ [])
name_of s (deficit_row t) = path (codes "deficit" ∷ profile_name s t ∷ [])
name_of s (profile_row t) = path (codes "profile" ∷ profile_name s t ∷ [])
