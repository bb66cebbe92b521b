-- What an agent gains by a false report, what it misses of its outside utility, and what all agents pay and get together.
use Rattle.std.specs.Prelude.{ℕ, ℤ, ◌-ℤ◌, ◌*ℤ◌, List, slice_index}
use Rattle.md_math.specs.Sums.{sum_to}
use Rattle.md_space.specs.Profiles.{replaced}
use Rattle.md_setting.specs.Setting.{GeneralSetting}
use Rattle.md_setting.specs.Meaning.{agent_count, outcome_count, outside_of, utility_of}
use Rattle.md_mech.specs.declared.mechanism.Mechanism.{Mechanism}
use Rattle.md_mech.specs.Mechanism.{chance_of, pay_of}
use Rattle.md_mech.specs.Utility.{expected_utility, weighted_given}

-- All of these are in units of one over the denominator.

-- the regret of the report b at the profile t: what agent i gets more by it than by its true type
abbrev pub regret_at : GeneralSetting → Mechanism → ℕ → List ℕ → ℕ → ℤ
regret_at s m i t b = expected_utility s m i t (replaced t i b) -ℤ expected_utility s m i t t

-- the same of type a by weight, over the profiles in which the agent has the type
abbrev pub regret_given : GeneralSetting → Mechanism → ℕ → ℕ → ℕ → ℤ
regret_given s m i a b = weighted_given s i a (λ t. regret_at s m i t b)

-- the shortfall of agent i at the profile t: what it gets less than it has outside
abbrev pub missing_at : GeneralSetting → Mechanism → ℕ → List ℕ → ℤ
missing_at s m i t = (m.den *ℤ outside_of s i (slice_index t i)) -ℤ expected_utility s m i t t

-- the same of type a by weight
abbrev pub missing_given : GeneralSetting → Mechanism → ℕ → ℕ → ℤ
missing_given s m i a = weighted_given s i a (missing_at s m i)

-- what all agents pay together at the report t; the deficit of t is this where it is negative
abbrev pub payments_at : GeneralSetting → Mechanism → List ℕ → ℤ
payments_at s m t = sum_to (agent_count s) (λ i. pay_of s m i t)

-- what agent i expects of the lottery at the profile t, payments left out
abbrev pub lottery_at : GeneralSetting → Mechanism → ℕ → List ℕ → ℤ
lottery_at s m i t = sum_to (outcome_count s) (λ o. chance_of s m t o *ℤ utility_of s i t o)

-- what all agents expect of it together
abbrev pub welfare_at : GeneralSetting → Mechanism → List ℕ → ℤ
welfare_at s m t = sum_to (agent_count s) (λ i. lottery_at s m i t)
