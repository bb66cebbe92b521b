-- Records of a list, and what the values of each add up to.
use Rattle.std.specs.Prelude.{ℕ, ◌<◌, ◌≤◌, ◌^◌, List, length}
use Rattle.md_setting.specs.Grouped.{GroupedAuction, group_at}
use Rattle.md_list.specs.Ranks.{Rank}
use Rattle.md_list.specs.Valid.{rank_at}
use Rattle.md_list_gains.specs.declared.sums.Sums.{Sums}
use Rattle.md_list_gains.specs.Places.{AreWithin, sums_at}
use Rattle.md_list_gains.specs.GroupSums.{AreRankSums}

-- the record has some values of a group
pub record IsRecord (a : GroupedAuction) (rank : Rank) : Type 0 where
  pub group : rank.group < length a.groups
  pub some : rank.first < rank.stop
  pub stop : rank.stop ≤ length (group_at a rank.group).values

-- the sums of each record of a list are small
pub record AreSmall (sums : List Sums) : Type 0 where
  pub each : (p : ℕ) → p < length sums → AreWithin (2 ^ 59) (sums_at sums p)

-- those of the records of a list, place by place
pub record AreListSums (a : GroupedAuction) (ranks : List Rank) (sums : List Sums) : Type 0 where
  pub each : (p : ℕ) → p < length sums → AreRankSums a (rank_at ranks p) (sums_at sums p)
