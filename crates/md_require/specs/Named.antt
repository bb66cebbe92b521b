-- Which amount a value of the code names.
use Rattle.std.specs.Prelude.{ℕ, ◌<◌, List, [], ◌∷◌, map, ◌==◌, if◌then◌else◌}
use Rattle.md_space.specs.Profiles.{profile_at, profile_count}
use Rattle.md_setting.specs.Setting.{GeneralSetting}
use Rattle.md_setting.specs.Meaning.{agent_count, outcome_count, sizes_of}
use Rattle.md_require.specs.declared.amount.Amount.{Amount as Code}
use Rattle.md_require.specs.declared.amount.Amount.TheVariants as code
use Rattle.md_require.specs.declared.condition.Condition.{Condition}
use Rattle.md_require.specs.declared.condition.Measured.{Measured}
use Rattle.md_require.specs.declared.condition.Measured.TheVariants as measured
use Rattle.md_forms.specs.Forms.{Form}
use Rattle.md_require.specs.Amounts.{Amount, revenue, welfare, utility, chance, chance_at, payment_at, payment_where}
use Rattle.md_require.specs.RequireProgram.{amount_form}

-- the amount that is named
abbrev pub named : GeneralSetting → Code → Amount
named s code.Revenue = revenue
named s code.Welfare = welfare
named s (code.Utility agent) = utility agent
named s (code.Chance outcome) = chance outcome
named s (code.ChanceAt rank outcome) = chance_at (profile_at (sizes_of s) rank) outcome
named s (code.PaymentAt rank agent) = payment_at agent (profile_at (sizes_of s) rank)

-- its agent, outcome and rank are there
abbrev pub IsInside : GeneralSetting → Code → Type 0
IsInside s code.Revenue = Unit {0}
IsInside s code.Welfare = Unit {0}
IsInside s (code.Utility agent) = agent < agent_count s
IsInside s (code.Chance outcome) = outcome < outcome_count s
IsInside s (code.ChanceAt rank outcome) = (rank < profile_count (sizes_of s)) × (outcome < outcome_count s)
IsInside s (code.PaymentAt rank agent) = (rank < profile_count (sizes_of s)) × (agent < agent_count s)

-- an amount that a measure has but once, at the first rank
abbrev pub at_first : ℕ → Amount → List Amount
at_first r amount = if r == 0 then amount ∷ [] else []

-- the amounts that a measure has at a rank; those of all ranks are all its amounts
abbrev pub amounts_at : GeneralSetting → Measured → ℕ → List Amount
amounts_at s measured.Revenue r = at_first r revenue
amounts_at s measured.Welfare r = at_first r welfare
amounts_at s (measured.Utility agent) r = at_first r (utility agent)
amounts_at s (measured.Chance outcome) r = at_first r (chance outcome)
amounts_at s (measured.ChanceAt rank outcome) r = at_first r (chance_at (profile_at (sizes_of s) rank) outcome)
amounts_at s (measured.Payment agent) r = payment_at agent (profile_at (sizes_of s) r) ∷ []
amounts_at s (measured.PaymentAs agent kind) r = payment_where agent kind (profile_at (sizes_of s) r)

-- the rows that a condition has at a rank
abbrev pub forms_at : GeneralSetting → Condition → ℕ → List Form
forms_at s c r = map (amount_form s c) (amounts_at s c.measured r)
