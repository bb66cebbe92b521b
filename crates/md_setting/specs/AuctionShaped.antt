-- What is known of an auction that is not refused.
use Rattle.std.specs.Prelude.{None, ◌≡◌, ℕ, ◌+◌, ◌<◌, ◌≤◌, ◌^◌, pos, ◌≤ℤ◌, ◌<ℤ◌, ◌*ℤ◌, length, slice_index}
use Rattle.md_math.specs.Lists.{number_at}
use Rattle.md_math.specs.Sizes.{IsWithin}
use Rattle.md_setting.specs.Auction.{SymmetricAuction, as_written, value_count, total_weight}
use Rattle.md_setting.specs.AuctionRefusals.{auction_refusal_of}
use Rattle.md_setting.specs.CountLists.{count_lists}

pub record IsAuction (a : SymmetricAuction) : Type 0 where
  pub some_bidder : 1 ≤ a.bidders
  pub few_bidders : a.bidders ≤ 12
  pub some_value : 1 ≤ value_count a
  pub few_values : value_count a ≤ 12
  pub one_each : length a.weights ≡ value_count a
  pub value : (k : ℕ) → k < value_count a → (pos 0 ≤ℤ number_at a.values k) × (number_at a.values k ≤ℤ pos 1000000)
  pub weight : (k : ℕ) → k < value_count a → (0 < slice_index a.weights k) × (slice_index a.weights k ≤ 1000000)
  pub revenue : (pos 0 ≤ℤ a.revenue) × (a.revenue ≤ℤ pos 1000)
  pub welfare : IsWithin 1000 a.welfare
  pub keep : IsWithin 1000000 a.keep
  pub gain : (k : ℕ) → k < value_count a → IsWithin 10000000 (a.welfare *ℤ number_at a.values k)
  pub total : total_weight a.weights ≤ 1000000
  pub ascending : (k : ℕ) → k + 1 < value_count a → number_at a.values k <ℤ number_at a.values (k + 1)
  pub few_profiles : total_weight a.weights ^ a.bidders ≤ 10 ^ 12
  pub few_counts : length (count_lists a.bidders (value_count a)) ≤ 20000

-- what is kept beside the auction is right
pub record IsKeptAuction (a : SymmetricAuction) (total : ℕ) : Type 0 where
  pub accepted : auction_refusal_of (as_written a) ≡ None
  pub auction : IsAuction a
  pub total_is : total ≡ total_weight a.weights
