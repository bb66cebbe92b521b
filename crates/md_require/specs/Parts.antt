-- An amount as a sum over the chances and the payments of all profiles, each times a part of its own.
use Rattle.std.specs.Prelude.{ℕ, ◌+◌, ◌*◌, ◌^◌, ◌<◌, ℤ, pos, ◌+ℤ◌, ◌*ℤ◌, neg_ℤ, ◌==◌, if◌then◌else◌}
use Rattle.md_math.specs.Sizes.{IsWithin}
use Rattle.md_math.specs.Sums.{sum_to}
use Rattle.md_space.specs.Profiles.{profile_at, profile_count, rank_of}
use Rattle.md_setting.specs.Setting.{GeneralSetting}
use Rattle.md_setting.specs.Meaning.{agent_count, outcome_count, sizes_of, utility_of, weight_of, welfare_of}
use Rattle.md_mech.specs.Accepted.{number_limit}
use Rattle.md_mech.specs.declared.mechanism.Mechanism.{Mechanism}
use Rattle.md_mech.specs.Mechanism.{chance_of, pay_of}
use Rattle.md_rows.specs.Columns.{payment_in}
use Rattle.md_require.specs.declared.amount.Scaled.{Scaled}
use Rattle.md_require.specs.Amounts.{Amount, revenue, welfare, utility, chance, chance_at, payment_at}
use Rattle.md_require.specs.Named.{IsInside, named}

-- what the profile of rank r weighs
abbrev pub weight_at : GeneralSetting → ℕ → ℤ
weight_at s r = weight_of s (profile_at (sizes_of s) r)

-- what the chance of outcome o at the rank r counts
abbrev pub chance_part : GeneralSetting → Amount → ℕ → ℕ → ℤ
chance_part s revenue r o = pos 0
chance_part s welfare r o = weight_at s r *ℤ welfare_of s (profile_at (sizes_of s) r) o
chance_part s (utility i) r o = weight_at s r *ℤ utility_of s i (profile_at (sizes_of s) r) o
chance_part s (chance p) r o = if o == p then weight_at s r else pos 0
chance_part s (chance_at u p) r o = if o == p then (if r == rank_of (sizes_of s) u then pos 1 else pos 0) else pos 0
chance_part s (payment_at j u) r o = pos 0

-- what the payment of agent i at the rank r counts
abbrev pub pay_part : GeneralSetting → Amount → ℕ → ℕ → ℤ
pay_part s revenue r i = weight_at s r
pay_part s welfare r i = pos 0
pay_part s (utility j) r i = if i == j then neg_ℤ (weight_at s r) else pos 0
pay_part s (chance p) r i = pos 0
pay_part s (chance_at u p) r i = pos 0
pay_part s (payment_at j u) r i = if i == j then (if r == rank_of (sizes_of s) u then pos 1 else pos 0) else pos 0

-- what the chances and the payments of a rank add, times a number
abbrev pub chances_add : GeneralSetting → Mechanism → ℤ → Amount → ℕ → ℤ
chances_add s m scale amount r = sum_to (outcome_count s) (λ o. (scale *ℤ chance_part s amount r o) *ℤ chance_of s m (profile_at (sizes_of s) r) o)

abbrev pub pays_add : GeneralSetting → Mechanism → ℤ → Amount → ℕ → ℤ
pays_add s m scale amount r = sum_to (agent_count s) (λ i. (scale *ℤ pay_part s amount r i) *ℤ pay_of s m i (profile_at (sizes_of s) r))

abbrev pub rank_adds : GeneralSetting → Mechanism → ℤ → Amount → ℕ → ℤ
rank_adds s m scale amount r = chances_add s m scale amount r +ℤ pays_add s m scale amount r

-- each part, times the number, is at most 2^44 in size
pub record IsNarrow (s : GeneralSetting) (scale : ℤ) (amount : Amount) : Type 0 where
  pub chances : (r o : ℕ) → r < profile_count (sizes_of s) → o < outcome_count s → IsWithin (2 ^ 44) (scale *ℤ chance_part s amount r o)
  pub pays : (r i : ℕ) → r < profile_count (sizes_of s) → i < agent_count s → IsWithin (2 ^ 44) (scale *ℤ pay_part s amount r i)

pub record IsScaled (s : GeneralSetting) (scaled : Scaled) : Type 0 where
  pub inside : IsInside s scaled.amount
  pub size : IsWithin number_limit scaled.scale
  pub narrow : IsNarrow s scaled.scale (named s scaled.amount)

-- ---- by columns

-- what the chances of a rank add
abbrev pub lottery_in : GeneralSetting → ℤ → Amount → (ℕ → ℤ) → ℕ → ℤ
lottery_in s scale amount x r = sum_to (outcome_count s) (λ o. (scale *ℤ chance_part s amount r o) *ℤ x (r * outcome_count s + o))

-- what one part of all payments of an agent adds, where the parts of all payments stand from the column `first` on
abbrev pub part_in : GeneralSetting → ℤ → Amount → ℕ → (ℕ → ℤ) → ℕ → ℤ
part_in s scale amount first x i = sum_to (profile_count (sizes_of s)) (λ r. (scale *ℤ pay_part s amount r i) *ℤ x (first + i * profile_count (sizes_of s) + r))

-- what all payments add
abbrev pub paid_in : GeneralSetting → ℤ → Amount → (ℕ → ℤ) → ℤ
paid_in s scale amount x =
    sum_to (agent_count s) (λ i. sum_to (profile_count (sizes_of s)) (λ r. (scale *ℤ pay_part s amount r i) *ℤ payment_in s x i (profile_at (sizes_of s) r)))
