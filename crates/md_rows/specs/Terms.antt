-- What the terms of a row stand for: parts of lotteries and of payments, by weights of profiles.
use Rattle.std.specs.Prelude.{ℕ, ◌+◌, ◌*◌, ℤ, ◌*ℤ◌}
use Rattle.md_math.specs.Sums.{sum_to}
use Rattle.md_space.specs.Profiles.{profile_count, profile_at, replaced}
use Rattle.md_setting.specs.Setting.{GeneralSetting}
use Rattle.md_setting.specs.Meaning.{outcome_count, sizes_of, utility_of}
use Rattle.md_lp.specs.declared.term.Term.{Term}
use Rattle.md_rows.specs.Columns.{payment_in}

-- what agent i has of the lottery at the rank of a share, by the share's weight, where it is of type a and the others report
-- their true types
abbrev pub chances_at : GeneralSetting → ℕ → ℕ → (ℕ → ℤ) → Term → ℤ
chances_at s i a x share =
    sum_to (outcome_count s)
    (λ o. (share.value *ℤ utility_of s i (replaced (profile_at (sizes_of s) share.column) i a) o) *ℤ x (share.column * outcome_count s + o))

-- what an agent pays at the rank of a share, by the share's weight
abbrev pub paid_at : GeneralSetting → ℕ → (ℕ → ℤ) → Term → ℤ
paid_at s i x share = share.value *ℤ payment_in s x i (profile_at (sizes_of s) share.column)

-- one part of it, where the parts by rank stand from the column `start` on
abbrev pub part_at : ℕ → ℤ → (ℕ → ℤ) → Term → ℤ
part_at start sign x share = (sign *ℤ share.value) *ℤ x (start + share.column)

-- one part of what an agent pays at a rank, where the parts of all agents stand from the column `first` on
abbrev pub part_of_all : GeneralSetting → ℕ → ℕ → ℤ → (ℕ → ℤ) → ℕ → ℤ
part_of_all s first rank sign x i = sign *ℤ x (first + (i * profile_count (sizes_of s) + rank))
