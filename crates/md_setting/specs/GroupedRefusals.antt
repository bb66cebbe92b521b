-- Why an auction with groups of bidders, as written, is refused.
use Rattle.std.specs.Prelude.{◌≡◌, true, ◌==◌, ℕ, zero, suc, ◌*◌, ◌-◌, ◌+◌, ◌%◌, ℤ, pos, ◌*ℤ◌, int_le, Bool, not, ◌&&◌, nat_le, List, length, map, slice_index_or, unsigned_abs, Option, Some, None, if◌then◌else◌}
use Rattle.std.specs.List.{list_all, sum_by}
use Rattle.md_setting.specs.Auction.{total_weight}
use Rattle.md_setting.specs.declared.refusal.BuildRefusal.{BuildRefusal}
use Rattle.md_setting.specs.declared.refusal.BuildRefusal.TheVariants.{BadName, DoubleName, Sizes, Shape, OutOfRange, ZeroWeight, WeightTotal, ValuesOrder, SlotsOrder}
use Rattle.md_setting.specs.AuctionRefusals.{is_up_to, are_positive, is_ascending}
use Rattle.md_setting.specs.Refusals.{all_below, are_apart, is_name, is_small, is_weight}
use Rattle.md_setting.specs.Grouped.{WrittenGroup, WrittenGroupedAuction}

-- a number from a lower limit to an upper one
abbrev pub is_from_to : ℤ → ℤ → ℤ → Bool
is_from_to low high z = int_le low z && int_le z high

-- ---- names

unfoldable pub has_good_group_names : WrittenGroupedAuction → Bool
has_good_group_names w = list_all (λ group. is_name group.name) w.groups

unfoldable pub has_own_group_names : WrittenGroupedAuction → Bool
has_own_group_names w = are_apart (map (λ group. group.name) w.groups)

-- ---- sizes

-- 1 to 1,000 bidders of 1 to 64 values
abbrev pub has_group_sizes : WrittenGroup → Bool
has_group_sizes group = is_from_to (pos 1) (pos 1000) group.count && nat_le 1 (length group.values) && nat_le (length group.values) 64

-- 1 to 64 groups of at most 1,000 bidders in all, and 1 to 1,000 slots
unfoldable pub has_grouped_sizes : WrittenGroupedAuction → Bool
has_grouped_sizes w =
    nat_le 1 (length w.groups) && nat_le (length w.groups) 64
    && list_all has_group_sizes w.groups
    && nat_le (sum_by (λ group. unsigned_abs group.count) w.groups) 1000
    && nat_le 1 (length w.slots) && nat_le (length w.slots) 1000

-- a weight for each value
unfoldable pub has_grouped_shape : WrittenGroupedAuction → Bool
has_grouped_shape w = list_all (λ group. length group.weights == length group.values) w.groups

-- ---- ranges

abbrev pub is_group_in_range : ℤ → WrittenGroup → Bool
is_group_in_range welfare group =
    list_all (is_small 1000000) group.values
    && list_all is_weight group.weights
    && is_small 1000000 group.worth
    && list_all (λ value. is_small 10000000 (welfare *ℤ value)) group.values

unfoldable pub is_grouped_in_range : WrittenGroupedAuction → Bool
is_grouped_in_range w =
    list_all (is_from_to (pos 1) (pos 1000)) w.slots
    && is_up_to 1000 w.revenue
    && is_small 1000 w.welfare
    && is_small 1000000 w.keep
    && list_all (is_group_in_range w.welfare) w.groups

-- ---- weights

abbrev pub weights_in_group : WrittenGroup → List ℕ
weights_in_group group = map unsigned_abs group.weights

-- whether a number divides each of some weights
abbrev pub divides_all : List ℕ → ℕ → Bool
divides_all weights d = list_all (λ weight. weight % d == 0) weights

-- the greatest of the numbers up to a limit that divides each of the weights, and 1 where there is none
abbrev pub greatest_divisor : List ℕ → ℕ → ℕ
greatest_divisor weights zero = 1
greatest_divisor weights (suc d) = if divides_all weights (suc d) then suc d else greatest_divisor weights d

-- the greatest number that divides each of some weights, which are not all 0
abbrev pub divisor_of : List ℕ → ℕ
divisor_of weights = greatest_divisor weights (total_weight weights)

-- weights add to at most 1,000,000 once they are divided by their greatest common divisor
abbrev pub is_small_once_divided : List ℕ → Bool
is_small_once_divided weights = nat_le (total_weight weights) (1000000 * divisor_of weights)

unfoldable pub has_positive_weights : WrittenGroupedAuction → Bool
has_positive_weights w = list_all (λ group. are_positive (weights_in_group group)) w.groups

unfoldable pub has_small_totals : WrittenGroupedAuction → Bool
has_small_totals w = list_all (λ group. is_small_once_divided (weights_in_group group)) w.groups

-- ---- orders

unfoldable pub has_ascending_values : WrittenGroupedAuction → Bool
has_ascending_values w = list_all (λ group. is_ascending group.values) w.groups

-- no slot has a greater amount than the one before it
abbrev pub are_falling : List ℤ → Bool
are_falling slots = all_below (length slots - 1) (λ h. int_le (slice_index_or slots (h + 1) (pos 0)) (slice_index_or slots h (pos 0)))

-- ---- the first reason to refuse an auction with groups

abbrev pub grouped_refusal_of : WrittenGroupedAuction → Option BuildRefusal
grouped_refusal_of w =
    if not (has_good_group_names w) then Some BadName
    else (if not (has_own_group_names w) then Some DoubleName
    else (if not (has_grouped_sizes w) then Some Sizes
    else (if not (has_grouped_shape w) then Some Shape
    else (if not (is_grouped_in_range w) then Some OutOfRange
    else (if not (has_positive_weights w) then Some ZeroWeight
    else (if not (has_small_totals w) then Some WeightTotal
    else (if not (has_ascending_values w) then Some ValuesOrder
    else (if not (are_falling w.slots) then Some SlotsOrder else None))))))))

-- the names are good, and sizes and numbers are within their limits
pub record HasGroupedNumbers (w : WrittenGroupedAuction) : Type 0 where
  pub names : has_good_group_names w ≡ true
  pub own_names : has_own_group_names w ≡ true
  pub sizes : has_grouped_sizes w ≡ true
  pub shape : has_grouped_shape w ≡ true
  pub range : is_grouped_in_range w ≡ true
