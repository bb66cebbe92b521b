-- The cost of the program of a setting, column by column, before it is divided.
use Rattle.std.specs.Prelude.{ℕ, ℤ, pos, neg_ℤ, ◌*ℤ◌, Bool, true, false, List, [], ◌++◌}
use Rattle.md_math.specs.Lists.{list_to, up_to}
use Rattle.md_space.specs.Profiles.{profile_count, profile_at}
use Rattle.md_setting.specs.Setting.{GeneralSetting}
use Rattle.md_setting.specs.Meaning.{agent_count, outcome_count, sizes_of, weight_of, value_of}

-- the costs of the chances of a rank, and of all chances
abbrev pub chance_costs_at : GeneralSetting → ℕ → List ℤ
chance_costs_at s r =
    list_to (outcome_count s) (λ o. weight_of s (profile_at (sizes_of s) r) *ℤ value_of s (profile_at (sizes_of s) r) o)

abbrev pub chance_costs : GeneralSetting → List ℤ
chance_costs s = up_to (profile_count (sizes_of s)) (chance_costs_at s)

-- the cost of one part of a payment at a rank, of what an agent pays, and of all payments
abbrev pub revenue_cost : GeneralSetting → ℤ → ℕ → ℤ
revenue_cost s sign r = sign *ℤ (weight_of s (profile_at (sizes_of s) r) *ℤ s.revenue)

abbrev pub revenue_costs_of : GeneralSetting → ℤ → List ℤ
revenue_costs_of s sign = list_to (profile_count (sizes_of s)) (revenue_cost s sign)

abbrev pub revenue_costs : GeneralSetting → ℤ → List ℤ
revenue_costs s sign = up_to (agent_count s) (λ _. revenue_costs_of s sign)

abbrev pub payment_costs : Bool → GeneralSetting → List ℤ
payment_costs true s = revenue_costs s (pos 1) ++ revenue_costs s (neg_ℤ (pos 1))
payment_costs false s = []

abbrev pub written_cost : GeneralSetting → List ℤ
written_cost s = chance_costs s ++ payment_costs s.payments s
