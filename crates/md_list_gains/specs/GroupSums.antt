-- What the values of a group below each place add up to, and those of a record of a list.
use Rattle.std.specs.Prelude.{◌≡◌, ℕ, suc, ◌≤◌, ◌^◌, List, length}
use Rattle.md_setting.specs.Grouped.{GroupedAuction, group_at}
use Rattle.md_list.specs.Ranks.{Rank}
use Rattle.md_list.specs.Gains.{weight_in, gain_of, benefit_of}
use Rattle.md_list.specs.ByRule.{sums_of, rank_weight, rank_gain, rank_benefit}
use Rattle.md_list_gains.specs.declared.sums.Sums.{Sums}
use Rattle.md_list_gains.specs.Places.{AreWithin, weight_to, gain_to, benefit_to}

-- the sums of the weights, gains and benefits of a group's values below a place
pub record AreSumsTo (a : GroupedAuction) (k x : ℕ) (sums : Sums) : Type 0 where
  pub weight : sums.weight ≡ sums_of (weight_in (group_at a k)) x
  pub gain : sums.gain ≡ sums_of (gain_of a (group_at a k)) x
  pub benefit : sums.benefit ≡ sums_of (benefit_of (group_at a k)) x

-- those by place
pub record AreSumsOf (a : GroupedAuction) (k : ℕ) (places : List Sums) : Type 0 where
  pub long : length places ≡ suc (length (group_at a k).values)
  pub weight : (x : ℕ) → x ≤ length (group_at a k).values → weight_to places x ≡ sums_of (weight_in (group_at a k)) x
  pub gain : (x : ℕ) → x ≤ length (group_at a k).values → gain_to places x ≡ sums_of (gain_of a (group_at a k)) x
  pub benefit : (x : ℕ) → x ≤ length (group_at a k).values → benefit_to places x ≡ sums_of (benefit_of (group_at a k)) x

-- the sums of a record, which are small
pub record AreRankSums (a : GroupedAuction) (rank : Rank) (sums : Sums) : Type 0 where
  pub weight : sums.weight ≡ rank_weight a rank
  pub gain : sums.gain ≡ rank_gain a rank
  pub benefit : sums.benefit ≡ rank_benefit a rank
  pub size : AreWithin (2 ^ 59) sums
