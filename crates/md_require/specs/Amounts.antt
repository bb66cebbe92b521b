-- What conditions measure of a mechanism: amounts that are linear in its chances and payments.
use Rattle.std.specs.Prelude.{ℕ, ◌==◌, ℤ, pos, ◌*ℤ◌, List, [], ◌∷◌, if◌then◌else◌, slice_index}
use Rattle.md_math.specs.Sums.{sum_to, total_by}
use Rattle.md_space.specs.AllProfiles.{profiles_of}
use Rattle.md_space.specs.Profiles.{profile_at}
use Rattle.md_setting.specs.Setting.{GeneralSetting}
use Rattle.md_setting.specs.Meaning.{agent_count, outcome_count, sizes_of, total_of, utility_of, weight_of}
use Rattle.md_mech.specs.declared.mechanism.Mechanism.{Mechanism}
use Rattle.md_mech.specs.Mechanism.{chance_of, pay_of}
use Rattle.md_mech.specs.Rows.{by_profile}
use Rattle.md_mech.specs.Utility.{expected_utility}
use Rattle.md_require.specs.declared.condition.Measured.{Measured}
use Rattle.md_require.specs.declared.condition.Measured.TheVariants as measured

-- Over all profiles by their weights: what all agents pay, what the outcome is worth to all agents, what an agent gets with its
-- payments taken off, and how often an outcome comes. At one profile: how often an outcome comes, and what an agent pays.
pub data Amount : Type 0 where
  revenue : Amount
  welfare : Amount
  utility : ℕ → Amount
  chance : ℕ → Amount
  chance_at : List ℕ → ℕ → Amount
  payment_at : ℕ → List ℕ → Amount

-- the sum of f, by weight, over all profiles
abbrev pub weighted : GeneralSetting → (List ℕ → ℤ) → ℤ
weighted s f = total_by (λ t. weight_of s t *ℤ f t) (profiles_of (sizes_of s))

-- so much it is by a mechanism, in units of one over the denominator times the whole
abbrev pub amount_of : GeneralSetting → Mechanism → Amount → ℤ
amount_of s m revenue = weighted s (λ t. sum_to (agent_count s) (λ i. pay_of s m i t))
amount_of s m welfare = weighted s (λ t. sum_to (agent_count s) (λ i. sum_to (outcome_count s) (λ o. chance_of s m t o *ℤ utility_of s i t o)))
amount_of s m (utility i) = weighted s (λ t. expected_utility s m i t t)
amount_of s m (chance o) = weighted s (λ t. chance_of s m t o)
amount_of s m (chance_at t o) = chance_of s m t o
amount_of s m (payment_at i t) = pay_of s m i t

-- the whole: the weight of all profiles, where it is an average over them
abbrev pub whole_of : GeneralSetting → Amount → ℤ
whole_of s revenue = total_of s
whole_of s welfare = total_of s
whole_of s (utility i) = total_of s
whole_of s (chance o) = total_of s
whole_of s (chance_at t o) = pos 1
whole_of s (payment_at i t) = pos 1

-- what an agent pays at a profile, where it has the type there
abbrev pub payment_where : ℕ → ℕ → List ℕ → List Amount
payment_where i a t = if slice_index t i == a then payment_at i t ∷ [] else []

-- what a condition is about: one amount, or what an agent pays at each of some profiles
abbrev pub amounts_of : GeneralSetting → Measured → List Amount
amounts_of s measured.Revenue = revenue ∷ []
amounts_of s measured.Welfare = welfare ∷ []
amounts_of s (measured.Utility agent) = utility agent ∷ []
amounts_of s (measured.Chance outcome) = chance outcome ∷ []
amounts_of s (measured.ChanceAt rank outcome) = chance_at (profile_at (sizes_of s) rank) outcome ∷ []
amounts_of s (measured.Payment agent) = by_profile s (λ t. payment_at agent t ∷ [])
amounts_of s (measured.PaymentAs agent kind) = by_profile s (payment_where agent kind)
