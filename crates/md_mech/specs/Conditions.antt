-- Which condition a value of the code names, and the row at which it stands.
use Rattle.std.specs.Prelude.{◌≡◌, ◌≢◌, ◌<◌, ◌+◌, ℕ, List, length, slice_index, slice_get, Some, Result, MatchResult, ◌≤◌, ◌⊎◌}
use Rattle.md_space.specs.Profiles.{profile_count, profile_at}
use Rattle.md_setting.specs.Setting.{GeneralSetting}
use Rattle.md_setting.specs.Meaning.{agent_count, sizes_of}
use Rattle.md_mech.specs.declared.condition.Condition.{Condition as Code}
use Rattle.md_mech.specs.declared.condition.Condition.TheVariants.{Dominant, Bayes, ExPost, Interim, Deficit, Profile}
use Rattle.md_mech.specs.Rows.{Condition, dominant_row, bayes_row, ex_post_row, interim_row, deficit_row, profile_row}

-- the condition that is named
abbrev pub named : GeneralSetting → Code → Condition
named s (Dominant i r b) = dominant_row i (profile_at (sizes_of s) r) b
named s (Bayes i a b) = bayes_row i a b
named s (ExPost i r) = ex_post_row i (profile_at (sizes_of s) r)
named s (Interim i a) = interim_row i a
named s (Deficit r) = deficit_row (profile_at (sizes_of s) r)
named s (Profile r) = profile_row (profile_at (sizes_of s) r)

-- its agent, types and profile are there, and a report is another type than the true one
abbrev pub IsInside : GeneralSetting → Code → Type 0
IsInside s (Dominant i r b) =
    (i < agent_count s) × (r < profile_count (sizes_of s)) × (b < slice_index (sizes_of s) i) × (b ≢ slice_index (profile_at (sizes_of s) r) i)
IsInside s (Bayes i a b) = (i < agent_count s) × (a < slice_index (sizes_of s) i) × (b < slice_index (sizes_of s) i) × (b ≢ a)
IsInside s (ExPost i r) = (i < agent_count s) × (r < profile_count (sizes_of s))
IsInside s (Interim i a) = (i < agent_count s) × (a < slice_index (sizes_of s) i)
IsInside s (Deficit r) = r < profile_count (sizes_of s)
IsInside s (Profile r) = r < profile_count (sizes_of s)

-- of some rows the one with this number is that of the condition
pub record IsAt (s : GeneralSetting) (rows : List Condition) (number : ℕ) (condition : Code) : Type 0 where
  pub row : slice_get rows number ≡ Some (named s condition)
  pub inside : IsInside s condition

-- the condition of the row with this number, or how far it is behind the rows
abbrev pub IsLocated : GeneralSetting → List Condition → ℕ → Result Code ℕ → Type 0
IsLocated s rows number result = MatchResult result (IsAt s rows number) (λ rest. number ≡ length rows + rest)

-- of the reports other than the true type, in ascending order, the one with this number
abbrev pub IsFalseReport : ℕ → ℕ → ℕ → Type 0
IsFalseReport kind number report = ((number < kind) × (report ≡ number)) ⊎ ((kind ≤ number) × (report ≡ number + 1))
