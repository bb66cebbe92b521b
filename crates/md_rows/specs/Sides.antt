-- The two sides of each row of the program of a setting, and its cost, at numbers for the columns.
use Rattle.std.specs.Prelude.{ℕ, ℤ, pos, ◌+ℤ◌, ◌-ℤ◌, ◌*ℤ◌, neg_ℤ, List, slice_index}
use Rattle.md_math.specs.Sums.{sum_to, total_by}
use Rattle.md_space.specs.Profiles.{replaced}
use Rattle.md_space.specs.AllProfiles.{profiles_of}
use Rattle.md_setting.specs.Setting.{GeneralSetting}
use Rattle.md_setting.specs.Meaning.{agent_count, outcome_count, sizes_of, utility_of, outside_of, weight_of, marginal_of, value_of}
use Rattle.md_mech.specs.Utility.{weighted_given}
use Rattle.md_mech.specs.Rows.{Condition, dominant_row, bayes_row, ex_post_row, interim_row, deficit_row, profile_row}
use Rattle.md_lp.specs.declared.row_kind.RowKind.{RowKind}
use Rattle.md_lp.specs.declared.row_kind.RowKind.TheVariants.{AtMost, Exact}
use Rattle.md_rows.specs.Columns.{chance_column, payment_in}

-- the utility of agent i where t has the true types and r the reports
abbrev pub utility_in : GeneralSetting → (ℕ → ℤ) → ℕ → List ℕ → List ℕ → ℤ
utility_in s x i t r =
    sum_to (outcome_count s) (λ o. utility_of s i t o *ℤ x (chance_column s r o)) -ℤ payment_in s x i r

-- the utility of agent i of type a where r has the reports, and the others report their true types
abbrev pub utility_as : GeneralSetting → (ℕ → ℤ) → ℕ → ℕ → List ℕ → ℤ
utility_as s x i a r = utility_in s x i (replaced r i a) r

-- how much better the report b is for agent i than its true type, where t has the true types
abbrev pub gain_in : GeneralSetting → (ℕ → ℤ) → ℕ → ℕ → List ℕ → ℤ
gain_in s x i b t = utility_in s x i t (replaced t i b) -ℤ utility_in s x i t t

-- how much agent i lacks of utility 0, where t has the true types
abbrev pub lack_in : GeneralSetting → (ℕ → ℤ) → ℕ → List ℕ → ℤ
lack_in s x i t = neg_ℤ (utility_in s x i t t)

-- the left side of a row
abbrev pub left_side : GeneralSetting → Condition → (ℕ → ℤ) → ℤ
left_side s (dominant_row i t b) x = gain_in s x i b t
left_side s (bayes_row i a b) x = weighted_given s i a (gain_in s x i b)
left_side s (ex_post_row i t) x = lack_in s x i t
left_side s (interim_row i a) x = weighted_given s i a (lack_in s x i)
left_side s (deficit_row t) x = neg_ℤ (sum_to (agent_count s) (λ i. payment_in s x i t))
left_side s (profile_row t) x = sum_to (outcome_count s) (λ o. x (chance_column s t o))

-- its right side
abbrev pub right_side : GeneralSetting → Condition → ℤ
right_side s (dominant_row i t b) = pos 0
right_side s (bayes_row i a b) = pos 0
right_side s (ex_post_row i t) = neg_ℤ (outside_of s i (slice_index t i))
right_side s (interim_row i a) = neg_ℤ (outside_of s i a) *ℤ marginal_of s i a
right_side s (deficit_row t) = pos 0
right_side s (profile_row t) = pos 1

-- what the left side is to be of the right side
abbrev pub kind_of : Condition → RowKind
kind_of (dominant_row i t b) = AtMost
kind_of (bayes_row i a b) = AtMost
kind_of (ex_post_row i t) = AtMost
kind_of (interim_row i a) = AtMost
kind_of (deficit_row t) = AtMost
kind_of (profile_row t) = Exact

-- what the designer gets at the report t
abbrev pub objective_in : GeneralSetting → (ℕ → ℤ) → List ℕ → ℤ
objective_in s x t =
    sum_to (outcome_count s) (λ o. value_of s t o *ℤ x (chance_column s t o))
    +ℤ (s.revenue *ℤ sum_to (agent_count s) (λ i. payment_in s x i t))

-- the cost
abbrev pub cost_in : GeneralSetting → (ℕ → ℤ) → ℤ
cost_in s x = total_by (λ t. weight_of s t *ℤ objective_in s x t) (profiles_of (sizes_of s))
