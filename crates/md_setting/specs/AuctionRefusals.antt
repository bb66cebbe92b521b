-- Why an auction as written is refused.
use Rattle.std.specs.Prelude.{◌≡◌, ℕ, ◌+◌, ◌-◌, ◌^◌, ℤ, pos, ◌*ℤ◌, unsigned_abs, int_le, int_lt, Bool, true, not, ◌&&◌, List, length, Option, None, Some, if◌then◌else◌, ◌==◌, nat_le, slice_index_or}
use Rattle.std.specs.List.{list_all}
use Rattle.md_setting.specs.declared.refusal.BuildRefusal.{BuildRefusal}
use Rattle.md_setting.specs.declared.refusal.BuildRefusal.TheVariants.{Sizes, Shape, OutOfRange, ZeroWeight, WeightTotal, ValuesOrder, TooManyCounts}
use Rattle.md_setting.specs.Auction.{WrittenAuction, weights_in, total_weight}
use Rattle.md_setting.specs.CountLists.{count_lists}
use Rattle.md_setting.specs.Refusals.{all_below, is_small, is_weight}

-- 1 to 12 bidders and 1 to 12 values
abbrev pub has_auction_sizes : WrittenAuction → Bool
has_auction_sizes w =
    int_le (pos 1) w.bidders && int_le w.bidders (pos 12) && nat_le 1 (length w.values) && nat_le (length w.values) 12

-- a weight for each value
abbrev pub has_auction_shape : WrittenAuction → Bool
has_auction_shape w = length w.weights == length w.values

-- a number from 0 to a limit
abbrev pub is_up_to : ℕ → ℤ → Bool
is_up_to limit z = int_le (pos 0) z && int_le z (pos limit)

-- each number is within its limit
abbrev pub is_auction_in_range : WrittenAuction → Bool
is_auction_in_range w =
    list_all (is_up_to 1000000) w.values
    && list_all is_weight w.weights
    && is_up_to 1000 w.revenue
    && is_small 1000 w.welfare
    && is_small 1000000 w.keep
    && list_all (λ value. is_small 10000000 (w.welfare *ℤ value)) w.values

-- no value has the weight 0
abbrev pub are_positive : List ℕ → Bool
are_positive weights = list_all (λ weight. not (weight == 0)) weights

-- each value is below the next one
abbrev pub is_ascending : List ℤ → Bool
is_ascending values = all_below (length values - 1) (λ k. int_lt (slice_index_or values k (pos 0)) (slice_index_or values (k + 1) (pos 0)))

-- the profiles weigh at most 10^12 together, and there are at most 20,000 lists of counts
abbrev pub has_few_counts : ℕ → ℕ → ℕ → Bool
has_few_counts total bidders kinds = nat_le (total ^ bidders) (10 ^ 12) && nat_le (length (count_lists bidders kinds)) 20000

-- the first reason to refuse weights and values that are in range
abbrev pub weight_refusal_of : ℕ → List ℤ → List ℕ → Option BuildRefusal
weight_refusal_of bidders values weights =
    if not (are_positive weights) then Some ZeroWeight
    else (if not (nat_le (total_weight weights) 1000000) then Some WeightTotal
    else (if not (is_ascending values) then Some ValuesOrder
    else (if not (has_few_counts (total_weight weights) bidders (length values)) then Some TooManyCounts else None)))

-- the first reason to refuse an auction
abbrev pub auction_refusal_of : WrittenAuction → Option BuildRefusal
auction_refusal_of w =
    if not (has_auction_sizes w) then Some Sizes
    else (if not (has_auction_shape w) then Some Shape
    else (if not (is_auction_in_range w) then Some OutOfRange
    else weight_refusal_of (unsigned_abs w.bidders) w.values (weights_in w)))

-- what is written has good sizes and numbers in range
pub record HasGoodNumbers (w : WrittenAuction) : Type 0 where
  pub sizes : has_auction_sizes w ≡ true
  pub shape : has_auction_shape w ≡ true
  pub range : is_auction_in_range w ≡ true
