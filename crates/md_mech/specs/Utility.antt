-- What agents get of a mechanism. Utility is quasi-linear and agents are risk neutral.
use Rattle.std.specs.Prelude.{ℕ, ℤ, ◌-ℤ◌, ◌*ℤ◌, List}
use Rattle.md_math.specs.Sums.{sum_to, total_by}
use Rattle.md_space.specs.AllProfiles.{profiles_of}
use Rattle.md_space.specs.ByType.{where_type}
use Rattle.md_space.specs.Profiles.{replaced}
use Rattle.md_setting.specs.Setting.{GeneralSetting}
use Rattle.md_setting.specs.Meaning.{outcome_count, sizes_of, utility_of, weight_of}
use Rattle.md_mech.specs.declared.mechanism.Mechanism.{Mechanism}
use Rattle.md_mech.specs.Mechanism.{chance_of, pay_of}

-- the utility of agent i where t has the true types and r the reports, in units of one over the denominator
abbrev pub expected_utility : GeneralSetting → Mechanism → ℕ → List ℕ → List ℕ → ℤ
expected_utility s m i t r =
    sum_to (outcome_count s) (λ o. chance_of s m r o *ℤ utility_of s i t o) -ℤ pay_of s m i r

-- the sum of f, by weight, over the profiles in which agent i has type a
abbrev pub weighted_given : GeneralSetting → ℕ → ℕ → (List ℕ → ℤ) → ℤ
weighted_given s i a f = total_by (where_type i a (λ t. weight_of s t *ℤ f t)) (profiles_of (sizes_of s))

-- what the profile t adds to the average of agent i of type a where it reports b
abbrev pub average_term : GeneralSetting → Mechanism → ℕ → ℕ → ℕ → List ℕ → ℤ
average_term s m i a b = where_type i a (λ t. weight_of s t *ℤ expected_utility s m i t (replaced t i b))
