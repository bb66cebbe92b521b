-- Expected numbers: over all profiles, and given the type of an agent.
use Rattle.std.specs.Prelude.{ℕ, ℤ, ◌*ℤ◌, List}
use Rattle.md_math.specs.Sums.{total_by}
use Rattle.md_num.specs.declared.frac.Frac.{Frac}
use Rattle.md_space.specs.AllProfiles.{profiles_of}
use Rattle.md_setting.specs.Setting.{GeneralSetting}
use Rattle.md_setting.specs.Meaning.{sizes_of, weight_of, total_of, marginal_of}
use Rattle.md_mech.specs.declared.mechanism.Mechanism.{Mechanism}
use Rattle.md_mech.specs.Mechanism.{pay_of}
use Rattle.md_mech.specs.Utility.{expected_utility, weighted_given}
use Rattle.md_report.specs.Ratio.{IsRatio}
use Rattle.md_report.specs.Regret.{payments_at, welfare_at}

-- the sum of f, by weight, over all profiles
abbrev pub weighted : GeneralSetting → (List ℕ → ℤ) → ℤ
weighted s f = total_by (λ t. weight_of s t *ℤ f t) (profiles_of (sizes_of s))

-- the fraction is what is expected of f, which is in units of one over the denominator
abbrev pub IsExpected : GeneralSetting → Mechanism → (List ℕ → ℤ) → Frac → Type 0
IsExpected s m f value = IsRatio (weighted s f) (m.den *ℤ total_of s) value

-- the same given that agent i has type a
abbrev pub IsExpectedGiven : GeneralSetting → Mechanism → ℕ → ℕ → (List ℕ → ℤ) → Frac → Type 0
IsExpectedGiven s m i a f value = IsRatio (weighted_given s i a f) (m.den *ℤ marginal_of s i a) value

-- the expected payments of all agents
abbrev pub IsRevenue : GeneralSetting → Mechanism → Frac → Type 0
IsRevenue s m value = IsExpected s m (payments_at s m) value

-- the expected utilities of all agents, payments left out
abbrev pub IsWelfare : GeneralSetting → Mechanism → Frac → Type 0
IsWelfare s m value = IsExpected s m (welfare_at s m) value

-- the expected utility of agent i given that it has type a, and what it is then expected to pay
abbrev pub IsUtilityGiven : GeneralSetting → Mechanism → ℕ → ℕ → Frac → Type 0
IsUtilityGiven s m i a value = IsExpectedGiven s m i a (λ t. expected_utility s m i t t) value

abbrev pub IsPaymentGiven : GeneralSetting → Mechanism → ℕ → ℕ → Frac → Type 0
IsPaymentGiven s m i a value = IsExpectedGiven s m i a (pay_of s m i) value
