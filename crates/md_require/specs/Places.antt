-- What conditions name is in the setting.
use Rattle.std.specs.Prelude.{◌<◌, List, All, slice_index}
use Rattle.md_space.specs.Profiles.{profile_count}
use Rattle.md_setting.specs.Setting.{GeneralSetting}
use Rattle.md_setting.specs.Meaning.{agent_count, outcome_count, sizes_of}
use Rattle.md_require.specs.declared.condition.Condition.{Condition}
use Rattle.md_require.specs.declared.condition.Measured.{Measured}
use Rattle.md_require.specs.declared.condition.Measured.TheVariants as measured

-- the agent, its type, the outcome and the rank of the profile that a measure speaks of
abbrev pub IsIn : GeneralSetting → Measured → Type 0
IsIn s measured.Revenue = Unit {0}
IsIn s measured.Welfare = Unit {0}
IsIn s (measured.Utility agent) = agent < agent_count s
IsIn s (measured.Chance outcome) = outcome < outcome_count s
IsIn s (measured.ChanceAt rank outcome) = (rank < profile_count (sizes_of s)) × (outcome < outcome_count s)
IsIn s (measured.Payment agent) = agent < agent_count s
IsIn s (measured.PaymentAs agent kind) = (agent < agent_count s) × (kind < slice_index (sizes_of s) agent)

abbrev pub AreIn : GeneralSetting → List Condition → Type 0
AreIn s conditions = All (λ c. IsIn s c.measured) conditions
