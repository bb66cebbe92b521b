-- The verdict on a list of bids that claims to be best, by conditions that are tried in their order:
--   19. each record is a pool of values whose virtual value is its level: record by record, and value by value from the least up;
--   20. values of no record bring nothing: group by group, and value by value from the least up;
--   21. each record brings something, and no more than the one before it: record by record;
--    2. the value is that of the rule of the list;
--   22. so is its revenue;
--   23. and its welfare.
-- Numbers are by the weights of each group in least terms. A list all of whose conditions hold is valid; else it is rejected with
-- the first condition that fails, at the first place where it does, with its numbers.
use Rattle.std.specs.Prelude.{◌≡◌, ◌≢◌, ◌⊎◌, ℕ, suc, ℤ, true, false, List, length, Option, Some, None, Vec}
use Rattle.std.specs.declared.alloc.Global.{Global}
use Rattle.md_math.specs.FirstFailure.{HoldsBelow, IsFirstFailure}
use Rattle.md_num.specs.declared.frac.Frac.{Frac}
use Rattle.md_setting.specs.Grouped.{GroupedAuction, group_at}
use Rattle.md_mech.specs.Value.{IsValueOf}
use Rattle.md_bidders.specs.Setting.{setting_of}
use Rattle.md_list.specs.Averages.{revenue_in}
use Rattle.md_list.specs.Best.{welfare_in}
use Rattle.md_list.specs.ByRule.{sums_of}
use Rattle.md_list.specs.Gains.{weight_in, gain_of, benefit_of, between}
use Rattle.md_list.specs.Lists.{ranks_of}
use Rattle.md_list.specs.Mechanisms.{list_mechanism}
use Rattle.md_list.specs.Ranks.{Rank, IsList}
use Rattle.md_list.specs.Told.{divided, has_averages, IsAverage, AreAverages}
use Rattle.md_list.specs.Valid.{rank_at, level_at, group_in, unlisted, IsPool, BringsNothing, BringsSome, IsNoLess, IsValid}
use Rattle.md_list.specs.declared.ranked.Averages.{Averages}
use Rattle.md_list.specs.declared.ranked.ListAnswer.{ListAnswer}
use Rattle.md_list_check.specs.Levels.{AreLevels, gain_side, weight_side, IsFirstUnkept}
use Rattle.md_list_check.specs.declared.verdict.ListVerdict.{ListVerdict}
use Rattle.md_list_check.specs.declared.verdict.ListVerdict.TheVariants.{Valid, Undecided, Inside, Unlisted, Order, Value, Revenue, Welfare}

-- ---- records

-- the sums of the weights and of the gains of the values of a record's group, by place
abbrev pub weights_by : GroupedAuction → Rank → ℕ → ℤ
weights_by a rank = sums_of (weight_in (group_in a rank))

abbrev pub gains_by : GroupedAuction → Rank → ℕ → ℤ
gains_by a rank = sums_of (gain_of a (group_in a rank))

-- the value is the first one of a record that does not keep the level, and the numbers are both sides there
pub record IsPoolFault (a : GroupedAuction) (rank : Rank) (level : Frac) (group value : ℕ) (left right : ℤ) : Type 0 where
  pub group_is : group ≡ rank.group
  pub first : IsFirstUnkept (weights_by a rank) (gains_by a rank) rank.first rank.stop level value
  pub left_is : left ≡ gain_side (gains_by (divided a) rank) rank.first level value
  pub right_is : right ≡ weight_side (weights_by (divided a) rank) rank.first level value

abbrev pub IsPoolAt : GroupedAuction → List Rank → List Frac → ℕ → Type 0
IsPoolAt a ranks levels p = IsPool a (rank_at ranks p) (level_at levels p)

-- so it is with the first record that is no pool with its level
pub record IsInsideFault (a : GroupedAuction) (ranks : List Rank) (levels : List Frac) (group value : ℕ) (left right : ℤ)
    : Type 0 where
  pub place : ℕ
  pub first : IsFirstFailure (length ranks) (IsPoolAt a ranks levels) place
  pub fault : IsPoolFault a (rank_at ranks place) (level_at levels place) group value left right

-- ---- values of no record

abbrev pub IsLeftOut : GroupedAuction → List Rank → ℕ → Type 0
IsLeftOut a ranks k = HoldsBelow (unlisted a ranks k) (BringsNothing a ranks k)

-- the first of such values of a group from which on they bring something, and what they bring
pub record IsGroupFault (a : GroupedAuction) (ranks : List Rank) (group value : ℕ) (gain benefit : ℤ) : Type 0 where
  pub first : IsFirstFailure (unlisted a ranks group) (BringsNothing a ranks group) value
  pub gain_is : gain ≡ between (gain_of (divided a) (group_at (divided a) group)) value (unlisted a ranks group)
  pub benefit_is : benefit ≡ between (benefit_of (group_at (divided a) group)) value (unlisted a ranks group)

-- so it is with the first group of which there are some
pub record IsUnlistedFault (a : GroupedAuction) (ranks : List Rank) (group value : ℕ) (gain benefit : ℤ) : Type 0 where
  pub first : IsFirstFailure (length a.groups) (IsLeftOut a ranks) group
  pub fault : IsGroupFault a ranks group value gain benefit

-- ---- the order

-- the record brings something, and no more than the one before it
pub record IsInOrder (a : GroupedAuction) (ranks : List Rank) (levels : List Frac) (p : ℕ) : Type 0 where
  pub some : BringsSome a (rank_at ranks p) (level_at levels p)
  pub no_more : (q : ℕ) → suc q ≡ p → IsNoLess a (rank_at ranks q) (level_at levels q) (rank_at ranks p) (level_at levels p)

-- ---- averages

-- what is told on average is right, where it is told
abbrev pub AreToldRightly : GroupedAuction → List Rank → Option Averages → Type 0
AreToldRightly a ranks None = Unit {0}
AreToldRightly a ranks (Some told) = AreAverages a ranks told

-- the value is this one, and not what is told; or it is, and the revenue is not; or both are, and the welfare is not
pub record IsOtherValue (a : GroupedAuction) (ranks : List Rank) (told : Averages) (right : Frac) : Type 0 where
  pub is : IsValueOf (setting_of a) (list_mechanism a ranks) right
  pub other : told.value ≢ right

pub record IsOtherRevenue (a : GroupedAuction) (ranks : List Rank) (told : Averages) (right : Frac) : Type 0 where
  pub value : IsValueOf (setting_of a) (list_mechanism a ranks) told.value
  pub is : IsAverage a (revenue_in (setting_of a) (list_mechanism a ranks)) right
  pub other : told.revenue ≢ right

pub record IsOtherWelfare (a : GroupedAuction) (ranks : List Rank) (told : Averages) (right : Frac) : Type 0 where
  pub value : IsValueOf (setting_of a) (list_mechanism a ranks) told.value
  pub revenue : IsAverage a (revenue_in (setting_of a) (list_mechanism a ranks)) told.revenue
  pub is : IsAverage a (welfare_in (setting_of a) (list_mechanism a ranks)) right
  pub other : told.welfare ≢ right

-- something is told on average of which this is so
abbrev pub WhereTold : (Averages → Type 0) → Option Averages → Type 0
WhereTold P None = ⊥
WhereTold P (Some told) = P told

-- ---- the verdict

-- the conditions on records and on the values of none
pub record AreWhole (a : GroupedAuction) (ranks : List Rank) (levels : List Frac) : Type 0 where
  pub pools : HoldsBelow (length ranks) (IsPoolAt a ranks levels)
  pub left_out : HoldsBelow (length a.groups) (IsLeftOut a ranks)

-- how one record is at fault, or some, or the values of one group that stand in none, or those of some
abbrev pub IsPoolVerdict : GroupedAuction → Rank → Frac → ListVerdict → Type 0
IsPoolVerdict a rank level (Inside group value left right) = IsPoolFault a rank level group value left right
IsPoolVerdict a rank level _ = ⊥

abbrev pub IsInsideVerdict : GroupedAuction → List Rank → List Frac → ListVerdict → Type 0
IsInsideVerdict a ranks levels (Inside group value left right) = IsInsideFault a ranks levels group value left right
IsInsideVerdict a ranks levels _ = ⊥

abbrev pub IsGroupVerdict : GroupedAuction → List Rank → ℕ → ListVerdict → Type 0
IsGroupVerdict a ranks k (Unlisted group value gain benefit) = (group ≡ k) × IsGroupFault a ranks k value gain benefit
IsGroupVerdict a ranks k _ = ⊥

abbrev pub IsUnlistedVerdict : GroupedAuction → List Rank → ListVerdict → Type 0
IsUnlistedVerdict a ranks (Unlisted group value gain benefit) = IsUnlistedFault a ranks group value gain benefit
IsUnlistedVerdict a ranks _ = ⊥

-- how the list is at fault
abbrev pub IsListFault : GroupedAuction → List Rank → List Frac → ListVerdict → Type 0
IsListFault a ranks levels (Inside group value left right) = IsInsideFault a ranks levels group value left right
IsListFault a ranks levels (Unlisted group value gain benefit) =
    HoldsBelow (length ranks) (IsPoolAt a ranks levels) × IsUnlistedFault a ranks group value gain benefit
IsListFault a ranks levels (Order place) = AreWhole a ranks levels × IsFirstFailure (length ranks) (IsInOrder a ranks levels) place
IsListFault a ranks levels _ = ⊥

-- what is told on average is right, or how it is not
abbrev pub IsAveragesVerdict : GroupedAuction → List Rank → Option Averages → ListVerdict → Type 0
IsAveragesVerdict a ranks told Valid = AreToldRightly a ranks told
IsAveragesVerdict a ranks told (Value right) = WhereTold (λ averages. IsOtherValue a ranks averages right) told
IsAveragesVerdict a ranks told (Revenue right) = WhereTold (λ averages. IsOtherRevenue a ranks averages right) told
IsAveragesVerdict a ranks told (Welfare right) = WhereTold (λ averages. IsOtherWelfare a ranks averages right) told
IsAveragesVerdict a ranks told _ = ⊥

-- the list claims to be best, with these levels, and this is told of it
abbrev pub IsVerdictOf : GroupedAuction → List Rank → List Frac → Option Averages → ListVerdict → Type 0
IsVerdictOf a ranks levels told verdict =
    IsListFault a ranks levels verdict ⊎ (IsValid a ranks levels × IsAveragesVerdict a ranks told verdict)

-- a list without levels claims nothing
abbrev pub IsVerdictBy : GroupedAuction → ListAnswer → Option (Vec Frac Global) → ListVerdict → Type 0
IsVerdictBy a answer None verdict = verdict ≡ Undecided
IsVerdictBy a answer (Some levels) verdict = IsVerdictOf a (ranks_of answer.ranks.items) levels.items answer.averages verdict

abbrev pub IsListVerdict : GroupedAuction → ListAnswer → ListVerdict → Type 0
IsListVerdict a answer verdict = IsVerdictBy a answer answer.levels verdict

-- ---- what is checked

-- The list is of the right form, with a level in range for each record, or none at all; and averages are told only where they may
-- be.
pub record IsWellFormed (a : GroupedAuction) (answer : ListAnswer) : Type 0 where
  pub form : IsList a (ranks_of answer.ranks.items)
  pub one_each : (levels : Vec Frac Global) → answer.levels ≡ Some levels → length levels.items ≡ length answer.ranks.items
  pub levels : (levels : Vec Frac Global) → answer.levels ≡ Some levels → AreLevels levels.items
  pub averages : (averages : Averages) → answer.averages ≡ Some averages → has_averages a ≡ true

-- the averages are those of the list, and are there where they may be told
abbrev pub AreRight : GroupedAuction → List Rank → Option Averages → Type 0
AreRight a ranks None = has_averages a ≡ false
AreRight a ranks (Some averages) = AreAverages a ranks averages
