-- What is known of an auction with groups of bidders that is not refused.
use Rattle.std.specs.Prelude.{None, ◌≡◌, ℕ, suc, ◌<◌, ◌≤◌, ◌*◌, pos, ◌≤ℤ◌, ◌<ℤ◌, ◌*ℤ◌, length, slice_index}
use Rattle.md_math.specs.Lists.{number_at}
use Rattle.md_math.specs.Sizes.{IsWithin}
use Rattle.md_setting.specs.Auction.{total_weight}
use Rattle.md_setting.specs.declared.raw.RawGroupedAuction.{RawGroupedAuction}
use Rattle.md_setting.specs.Grouped.{Group, GroupedAuction, bidder_count, group_at, written_grouped, grouped_of, grouped_as_written}
use Rattle.md_setting.specs.GroupedRefusals.{divisor_of, grouped_refusal_of}

-- values ascend, and each has a weight, which is not 0
pub record IsGroup (group : Group) : Type 0 where
  pub some_value : 1 ≤ length group.values
  pub one_each : length group.weights ≡ length group.values
  pub positive : (v : ℕ) → v < length group.values → 0 < slice_index group.weights v
  pub ascending : (v : ℕ) → suc v < length group.values → number_at group.values v <ℤ number_at group.values (suc v)

-- the numbers of a group are within their limits
pub record IsSmallGroup (a : GroupedAuction) (group : Group) : Type 0 where
  pub count : (1 ≤ group.count) × (group.count ≤ 1000)
  pub few_values : length group.values ≤ 64
  pub value : (v : ℕ) → IsWithin 1000000 (number_at group.values v)
  pub gain : (v : ℕ) → IsWithin 10000000 (a.welfare *ℤ number_at group.values v)
  pub weight : (v : ℕ) → slice_index group.weights v ≤ 1000000
  pub worth : IsWithin 1000000 group.worth
  pub total : total_weight group.weights ≤ 1000000 * divisor_of group.weights

-- no slot has a greater amount than the one before it, and the designer does not want payments to be small
pub record IsOrdered (a : GroupedAuction) : Type 0 where
  pub group : (k : ℕ) → k < length a.groups → IsGroup (group_at a k)
  pub falling : (h : ℕ) → suc h < length a.slots → slice_index a.slots (suc h) ≤ slice_index a.slots h
  pub revenue : pos 0 ≤ℤ a.revenue

pub record IsGroupedAuction (a : GroupedAuction) : Type 0 where
  pub ordered : IsOrdered a
  pub groups : (1 ≤ length a.groups) × (length a.groups ≤ 64)
  pub small : (k : ℕ) → k < length a.groups → IsSmallGroup a (group_at a k)
  pub few_bidders : bidder_count a ≤ 1000
  pub slots : (1 ≤ length a.slots) × (length a.slots ≤ 1000)
  pub amount : (h : ℕ) → h < length a.slots → (1 ≤ slice_index a.slots h) × (slice_index a.slots h ≤ 1000)
  pub most_revenue : a.revenue ≤ℤ pos 1000
  pub welfare : IsWithin 1000 a.welfare
  pub keep : IsWithin 1000000 a.keep

-- what is kept as it was written is right, and is written as it says
pub record IsKeptGrouped (raw : RawGroupedAuction) : Type 0 where
  pub accepted : grouped_refusal_of (written_grouped raw) ≡ None
  pub shaped : IsGroupedAuction (grouped_of (written_grouped raw))
  pub written_back : grouped_as_written (grouped_of (written_grouped raw)) ≡ written_grouped raw
