-- The rule by which the best list is made. Each group has a reserve, and pools of values from there on (Myerson 1981); the list has
-- the pools of all groups, by what they bring. The place of a value is its number in the group, and one more is behind them all.
use Rattle.std.specs.Prelude.{◌≡◌, ◌⊎◌, ℕ, suc, ◌<◌, ◌≤◌, ℤ, pos, ◌-ℤ◌, ◌*ℤ◌, ◌≤ℤ◌, ◌<ℤ◌, List, length}
use Rattle.md_math.specs.LexOrder.{IsPairNonNegative, IsPairPositive}
use Rattle.md_math.specs.Sums.{sum_to}
use Rattle.md_num.specs.declared.frac.Frac.{Frac}
use Rattle.md_setting.specs.Grouped.{GroupedAuction, group_at}
use Rattle.md_list.specs.Ranks.{Rank, IsList}
use Rattle.md_list.specs.Gains.{weight_in, gain_of, benefit_of}
use Rattle.md_list.specs.Valid.{rank_at, level_at, over_rank, group_in, unlisted}

-- ---- the pools of a group

-- sums of a function of values, by place: of those below it
abbrev pub sums_of : (ℕ → ℤ) → ℕ → ℤ
sums_of f x = sum_to x f

-- what sums by place grow by from one place to another
abbrev pub growth : (ℕ → ℤ) → ℕ → ℕ → ℤ
growth sums first stop = sums stop -ℤ sums first

-- The reserve is the place at which the sum of the gains of the values below is least; of several such places the one at which that
-- of their benefits is least, and of these the last. `gain` and `benefit` are these sums.
pub record IsReserve (values : ℕ) (gain benefit : ℕ → ℤ) (reserve : ℕ) : Type 0 where
  pub inside : reserve ≤ values
  pub least : (x : ℕ) → x ≤ values → IsPairNonNegative (growth gain reserve x) (growth benefit reserve x)
  pub last : (x : ℕ) → reserve < x → x ≤ values → IsPairPositive (growth gain reserve x) (growth benefit reserve x)

-- A pool ends at the first place above its beginning at which the virtual value of the values between, the sum of their gains over
-- that of their weights, is least. `weight` and `gain` are the sums of those below a place.
pub record IsPoolEnd (values : ℕ) (weight gain : ℕ → ℤ) (first stop : ℕ) : Type 0 where
  pub some : first < stop
  pub inside : stop ≤ values
  pub least : (x : ℕ) → first < x → x ≤ values
      → (growth gain first stop *ℤ growth weight first x) ≤ℤ (growth gain first x *ℤ growth weight first stop)
  pub soonest : (x : ℕ) → first < x → x < stop
      → (growth gain first stop *ℤ growth weight first x) <ℤ (growth gain first x *ℤ growth weight first stop)

-- the same of a group of an auction, and of the values of a record
abbrev pub IsReserveOf : GroupedAuction → ℕ → ℕ → Type 0
IsReserveOf a k =
    IsReserve (length (group_at a k).values) (sums_of (gain_of a (group_at a k))) (sums_of (benefit_of (group_at a k)))

abbrev pub IsPoolEndOf : GroupedAuction → ℕ → ℕ → ℕ → Type 0
IsPoolEndOf a k =
    IsPoolEnd (length (group_at a k).values) (sums_of (weight_in (group_at a k))) (sums_of (gain_of a (group_at a k)))

abbrev pub IsPoolByRule : GroupedAuction → Rank → Type 0
IsPoolByRule a rank = IsPoolEndOf a rank.group rank.first rank.stop

-- ---- the order

-- what a record and another one weigh, gain and bring in welfare
abbrev pub rank_weight : GroupedAuction → Rank → ℤ
rank_weight a rank = over_rank (weight_in (group_in a rank)) rank

abbrev pub rank_gain : GroupedAuction → Rank → ℤ
rank_gain a rank = over_rank (gain_of a (group_in a rank)) rank

abbrev pub rank_benefit : GroupedAuction → Rank → ℤ
rank_benefit a rank = over_rank (benefit_of (group_in a rank)) rank

-- by how much the virtual value of a record exceeds that of another, and its mean value, times the weights of both
abbrev pub more_gain : GroupedAuction → Rank → Rank → ℤ
more_gain a rank other = rank_gain a rank *ℤ rank_weight a other -ℤ rank_gain a other *ℤ rank_weight a rank

abbrev pub more_benefit : GroupedAuction → Rank → Rank → ℤ
more_benefit a rank other = rank_benefit a rank *ℤ rank_weight a other -ℤ rank_benefit a other *ℤ rank_weight a rank

-- a record brings more than another by weight: its virtual value is greater, or the same and its mean value greater
abbrev pub BringsMore : GroupedAuction → Rank → Rank → Type 0
BringsMore a rank other = IsPairPositive (more_gain a rank other) (more_benefit a rank other)

-- a record stands before another: it brings more, or just as much and its group comes first
abbrev pub StandsBefore : GroupedAuction → Rank → Rank → Type 0
StandsBefore a rank other =
    BringsMore a rank other
    ⊎ ((more_gain a rank other ≡ pos 0) × (more_benefit a rank other ≡ pos 0) × (rank.group < other.group))

-- ---- the list

-- the fraction is the virtual value of a record
pub record IsVirtualValue (a : GroupedAuction) (rank : Rank) (level : Frac) : Type 0 where
  pub positive : pos 0 <ℤ level.den
  pub whole : level.den *ℤ rank_gain a rank ≡ level.num *ℤ rank_weight a rank

-- The records of each group are its pools, from the reserve up to the last value, each beginning where the one below it ends; and
-- each record stands before the next one. The levels are the virtual values.
pub record IsByRule (a : GroupedAuction) (ranks : List Rank) (levels : List Frac) : Type 0 where
  pub form : IsList a ranks
  pub reserve : (k : ℕ) → k < length a.groups → IsReserveOf a k (unlisted a ranks k)
  pub pool : (p : ℕ) → p < length ranks → IsPoolByRule a (rank_at ranks p)
  pub order : (p : ℕ) → suc p < length ranks → StandsBefore a (rank_at ranks p) (rank_at ranks (suc p))
  pub one_each : length levels ≡ length ranks
  pub level : (p : ℕ) → p < length ranks → IsVirtualValue a (rank_at ranks p) (level_at levels p)
