-- What the terms of the row of an agent stand for.
use Rattle.std.specs.Prelude.{ℕ, ◌+◌, ◌*◌, ℤ, neg_ℤ, ◌*ℤ◌}
use Rattle.md_math.specs.Sums.{sum_to}
use Rattle.md_space.specs.Profiles.{profile_count, profile_at}
use Rattle.md_setting.specs.Setting.{GeneralSetting}
use Rattle.md_setting.specs.Meaning.{outcome_count, sizes_of, utility_of, weight_of}
use Rattle.md_rows.specs.Columns.{payment_in}

-- what agent i has of the lottery at a rank, by weight, taken away
abbrev pub lottery_lost : GeneralSetting → ℕ → (ℕ → ℤ) → ℕ → ℤ
lottery_lost s i x r =
    sum_to (outcome_count s)
    (λ o. (neg_ℤ (weight_of s (profile_at (sizes_of s) r)) *ℤ utility_of s i (profile_at (sizes_of s) r) o) *ℤ x (r * outcome_count s + o))

-- one part of what it pays at a rank, by weight, with a sign, where the parts of all payments stand from the column `first` on
abbrev pub part_paid : GeneralSetting → ℕ → ℕ → ℤ → (ℕ → ℤ) → ℕ → ℤ
part_paid s i first sign x r = (sign *ℤ weight_of s (profile_at (sizes_of s) r)) *ℤ x (first + i * profile_count (sizes_of s) + r)

-- what it pays at all profiles, by weight
abbrev pub paid_in : GeneralSetting → ℕ → (ℕ → ℤ) → ℤ
paid_in s i x = sum_to (profile_count (sizes_of s)) (λ r. weight_of s (profile_at (sizes_of s) r) *ℤ payment_in s x i (profile_at (sizes_of s) r))
