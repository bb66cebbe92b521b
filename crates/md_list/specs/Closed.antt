-- The closed sums of a list of bids: of its first records, how often so many bidders have one of their values, and what these bidders
-- get together; of each record, what it gets and pays; and of the whole list its revenue, its welfare and its value. All sums are over
-- all profiles, by weight.
use Rattle.std.specs.Prelude.{◌≡◌, ℕ, zero, suc, ◌<◌, nat_lt, if◌then◌else◌, ℤ, pos, ◌+ℤ◌, ◌-ℤ◌, ◌*ℤ◌, List, length, slice_index}
use Rattle.md_math.specs.Lists.{number_at}
use Rattle.md_math.specs.Sums.{sum_to, total_by}
use Rattle.md_setting.specs.Grouped.{Group, GroupedAuction, group_at, group_of, group_with, bidder_count}
use Rattle.md_bidders.specs.Products.{product_below}
use Rattle.md_bidders.specs.Setting.{all_units}
use Rattle.md_list.specs.Gains.{weight_in, benefit_of}
use Rattle.md_list.specs.Ranks.{Rank, place_of}
use Rattle.md_list.specs.Valid.{rank_at, over_rank, group_in}

-- ---- the first records

-- the coefficients of a polynomial times out + has·x
abbrev pub times_factor : ℤ → ℤ → (ℕ → ℤ) → ℕ → ℤ
times_factor out has numbers zero = out *ℤ numbers 0
times_factor out has numbers (suc h) = out *ℤ numbers (suc h) +ℤ has *ℤ numbers h

-- the coefficients of the product of the first n of the factors out + has·x
abbrev pub product_numbers : ℕ → (ℕ → ℤ) → (ℕ → ℤ) → ℕ → ℤ
product_numbers zero out has zero = pos 1
product_numbers zero out has (suc h) = pos 0
product_numbers (suc n) out has h = times_factor (out n) (has n) (product_numbers n out has) h

-- the weight of all values of a group
abbrev pub all_weight : Group → ℤ
all_weight group = total_by pos group.weights

-- the weight of the values of group k that stand in the first r records
abbrev pub listed_weight : GroupedAuction → List Rank → ℕ → ℕ → ℤ
listed_weight a ranks r k = sum_to (length (group_at a k).values) (λ v. if nat_lt (place_of ranks k v) r then weight_in (group_at a k) v else pos 0)

-- by h the weight of the profiles in which h bidders have a value of the first r records: the product over all bidders of what the
-- values of no such record weigh, and of what the others weigh, times x
abbrev pub numbers_with : GroupedAuction → List Rank → ℕ → ℕ → ℤ
numbers_with a ranks r =
    product_numbers (bidder_count a) (λ i. all_weight (group_with a i) -ℤ listed_weight a ranks r (group_of a i)) (λ i. listed_weight a ranks r (group_of a i))

-- of slot h, counted from 0: its units, and that it is there
abbrev pub units_of : GroupedAuction → ℕ → ℤ
units_of a h = pos (slice_index a.slots h)

abbrev pub is_slot : GroupedAuction → ℕ → ℤ
is_slot a h = if nat_lt h (length a.slots) then pos 1 else pos 0

-- what bidders with a value of the first r records get together, where slot h brings f h: so many bidders get the first slots
abbrev pub first_sum : GroupedAuction → List Rank → (ℕ → ℤ) → ℕ → ℤ
first_sum a ranks f r = sum_to (suc (bidder_count a)) (λ h. numbers_with a ranks r h *ℤ sum_to h f)

-- ---- one record

-- the weight of the values of the record at a place, and the least of these values
abbrev pub rank_weight : GroupedAuction → List Rank → ℕ → ℤ
rank_weight a ranks c = over_rank (weight_in (group_in a (rank_at ranks c))) (rank_at ranks c)

abbrev pub rank_least : GroupedAuction → List Rank → ℕ → ℤ
rank_least a ranks c = number_at (group_in a (rank_at ranks c)).values (rank_at ranks c).first

-- the place of the value below value number v of group k, behind all records where there is none
abbrev pub place_below : List Rank → ℕ → ℕ → ℕ
place_below ranks k zero = length ranks
place_below ranks k (suc v) = place_of ranks k v

-- the place of the next lower record of the same group, behind all records where there is none
abbrev pub lower_place : List Rank → ℕ → ℕ
lower_place ranks c = place_below ranks (rank_at ranks c).group (rank_at ranks c).first

-- What a record brings to the bidders of its group together, where each of them has a value of it by turns, over the others' values by
-- weight. Its bidders with their weight get what they add to the records before it.
abbrev pub IsShare : GroupedAuction → List Rank → (ℕ → ℤ) → (ℕ → ℤ) → Type 0
IsShare a ranks f q =
    (q (length ranks) ≡ pos 0)
    × ((c : ℕ) → c < length ranks → rank_weight a ranks c *ℤ q c ≡ first_sum a ranks f (suc c) -ℤ first_sum a ranks f c)

-- by record the units, how often there are some, and the payments: for each unit the least value of a record of the group with which it
-- would still be had
pub record AreSums (a : GroupedAuction) (ranks : List Rank) (units odds pays : ℕ → ℤ) : Type 0 where
  pub gets : IsShare a ranks (units_of a) units
  pub wins : IsShare a ranks (is_slot a) odds
  pub none : pays (length ranks) ≡ pos 0
  pub steps : (c : ℕ) → c < length ranks → pays c ≡ rank_least a ranks c *ℤ (units c -ℤ units (lower_place ranks c)) +ℤ pays (lower_place ranks c)

-- ---- the whole list

-- the weight of all profiles
abbrev pub all_profiles : GroupedAuction → ℤ
all_profiles a = product_below (bidder_count a) (λ i. all_weight (group_with a i))

abbrev pub closed_revenue : GroupedAuction → List Rank → (ℕ → ℤ) → ℤ
closed_revenue a ranks pays = sum_to (length ranks) (λ c. rank_weight a ranks c *ℤ pays c)

abbrev pub closed_welfare : GroupedAuction → List Rank → (ℕ → ℤ) → ℤ
closed_welfare a ranks units = sum_to (length ranks) (λ c. units c *ℤ over_rank (benefit_of (group_in a (rank_at ranks c))) (rank_at ranks c))

-- what the designer has of the units that bidders get, more than where nobody gets them
abbrev pub closed_surplus : GroupedAuction → List Rank → (ℕ → ℤ) → ℤ
closed_surplus a ranks units = sum_to (length ranks) (λ c. (rank_weight a ranks c *ℤ units c) *ℤ ((group_in a (rank_at ranks c)).worth -ℤ a.keep))

abbrev pub closed_value : GroupedAuction → List Rank → (ℕ → ℤ) → (ℕ → ℤ) → ℤ
closed_value a ranks units pays =
    ((closed_revenue a ranks pays *ℤ a.revenue +ℤ closed_welfare a ranks units *ℤ a.welfare) +ℤ closed_surplus a ranks units)
    +ℤ (a.keep *ℤ all_units a) *ℤ all_profiles a
