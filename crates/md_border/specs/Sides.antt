-- The right sides of Border's conditions (Border 1991): how often an item can go to a bidder whose value is in a set.
use Rattle.std.specs.Prelude.{ℕ, ◌-◌, ◌^◌, min, ℤ, pos, ◌-ℤ◌, ◌*ℤ◌, if◌then◌else◌}
use Rattle.md_math.specs.Sums.{total_by}
use Rattle.md_space.specs.AllProfiles.{profiles_of}
use Rattle.md_setting.specs.Meaning.{sizes_of, weight_of}
use Rattle.md_setting.specs.Auction.{SymmetricAuction, value_count, total_weight}
use Rattle.md_setting.specs.CountLists.{count_lists}
use Rattle.md_setting.specs.General.{general_of}
use Rattle.md_counts.specs.Weights.{weight_of_counts}
use Rattle.md_border.specs.Sets.{has_some, sum_in}

-- the weight of the profiles in which some bidder's value is in the set
abbrev pub right_of : SymmetricAuction → ℕ → ℤ
right_of a set =
    total_by (λ t. if has_some set t then weight_of (general_of a) t else pos 0) (profiles_of (sizes_of (general_of a)))

-- by how many bidders have each kind of value: as many of some units as there are bidders with values in the set, each
-- by the weight of the profiles with these counts
abbrev pub right_by_counts : SymmetricAuction → ℕ → ℕ → ℤ
right_by_counts a units set =
    total_by (λ counts. pos (weight_of_counts a.weights a.bidders counts) *ℤ pos (min units (sum_in set counts))) (count_lists a.bidders (value_count a))

-- the weight of all profiles, less that of those in which no bidder's value is in the set
abbrev pub right_by_power : SymmetricAuction → ℕ → ℤ
right_by_power a set =
    pos (total_weight a.weights ^ a.bidders) -ℤ pos ((total_weight a.weights - sum_in set a.weights) ^ a.bidders)
