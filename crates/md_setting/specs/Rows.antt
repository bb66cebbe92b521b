-- How many rows and columns the linear program of a setting has.
use Rattle.std.specs.Prelude.{ℕ, ◌+◌, ◌*◌, ◌-◌, Bool, List, length, if◌then◌else◌}
use Rattle.std.specs.List.{sum_by}
use Rattle.md_space.specs.Profiles.{profile_count}
use Rattle.md_setting.specs.declared.kinds.Truth.{Truth}
use Rattle.md_setting.specs.declared.kinds.Truth.TheVariants.{Dominant, Bayes}
use Rattle.md_setting.specs.declared.kinds.Rational.{Rational}
use Rattle.md_setting.specs.declared.kinds.Rational.TheVariants.{None as Free, ExPost, Interim}
use Rattle.md_setting.specs.Setting.{GeneralSetting}
use Rattle.md_setting.specs.Meaning.{sizes_of, outcome_count}

-- dominant truth is asked at each profile, bayes truth at each type of the agent
abbrev pub truth_places : Truth → ℕ → ℕ → ℕ
truth_places Dominant profiles types = profiles
truth_places Bayes profiles types = types

-- for each agent and place a row for each false report
abbrev pub truth_rows : Truth → List ℕ → ℕ
truth_rows truth sizes = sum_by (λ n. truth_places truth (profile_count sizes) n * (n - 1)) sizes

-- ex-post: a row for each agent and profile; interim: for each type of an agent
abbrev pub rational_rows : Rational → List ℕ → ℕ
rational_rows Free sizes = 0
rational_rows ExPost sizes = length sizes * profile_count sizes
rational_rows Interim sizes = sum_by (λ n. n) sizes

-- where no deficit is allowed, a row for each profile
abbrev pub deficit_rows : Bool → List ℕ → ℕ
deficit_rows no_deficit sizes = if no_deficit then profile_count sizes else 0

-- the rows that say `at most`
abbrev pub demand_count : GeneralSetting → ℕ
demand_count s =
    truth_rows s.truth (sizes_of s) + rational_rows s.rational (sizes_of s) + deficit_rows s.no_deficit (sizes_of s)

-- and a row for each profile, whose chances add to 1
abbrev pub row_count : GeneralSetting → ℕ
row_count s = demand_count s + profile_count (sizes_of s)

-- where there are payments, two parts of each
abbrev pub payment_columns : Bool → List ℕ → ℕ
payment_columns payments sizes = if payments then 2 * (length sizes * profile_count sizes) else 0

-- a chance for each profile and outcome, and the payments
abbrev pub column_count : GeneralSetting → ℕ
column_count s = profile_count (sizes_of s) * outcome_count s + payment_columns s.payments (sizes_of s)

-- the cells of the rows of the table: the columns, one more for each row that says `at most`, one for each row, and the right side
abbrev pub cell_count : GeneralSetting → ℕ
cell_count s = row_count s * (column_count s + demand_count s + row_count s + 1)
