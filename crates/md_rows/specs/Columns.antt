-- What each column of the program of a setting stands for: first the chances, by profile and outcome; then, where there
-- are payments, the plus parts of all payments and their minus parts, each by agent and profile.
use Rattle.std.specs.Prelude.{ℕ, ◌+◌, ◌*◌, ℤ, pos, ◌-ℤ◌, Bool, true, false, List}
use Rattle.md_space.specs.Profiles.{profile_count, rank_of}
use Rattle.md_setting.specs.Setting.{GeneralSetting}
use Rattle.md_setting.specs.Meaning.{agent_count, outcome_count, sizes_of}

-- the column of the chance of outcome o at the report t
abbrev pub chance_column : GeneralSetting → List ℕ → ℕ → ℕ
chance_column s t o = rank_of (sizes_of s) t * outcome_count s + o

-- the first column of the plus parts, and of the minus parts
abbrev pub first_plus : GeneralSetting → ℕ
first_plus s = profile_count (sizes_of s) * outcome_count s

abbrev pub first_minus : GeneralSetting → ℕ
first_minus s = first_plus s + agent_count s * profile_count (sizes_of s)

-- the columns of the two parts of what agent i pays at the report t
abbrev pub plus_column : GeneralSetting → ℕ → List ℕ → ℕ
plus_column s i t = first_plus s + (i * profile_count (sizes_of s) + rank_of (sizes_of s) t)

abbrev pub minus_column : GeneralSetting → ℕ → List ℕ → ℕ
minus_column s i t = first_minus s + (i * profile_count (sizes_of s) + rank_of (sizes_of s) t)

-- a payment of these two parts, which is 0 where payments are off
abbrev pub payment_by : Bool → ℤ → ℤ → ℤ
payment_by true plus minus = plus -ℤ minus
payment_by false plus minus = pos 0

-- what agent i pays at the report t, by numbers for the columns
abbrev pub payment_in : GeneralSetting → (ℕ → ℤ) → ℕ → List ℕ → ℤ
payment_in s x i t = payment_by s.payments (x (plus_column s i t)) (x (minus_column s i t))
