-- The rule of a list of bids. Bidders go by the places of their values in the list; of bidders with the same place the one that comes
-- first in the profile goes first. The one at the front gets the first slot, and so on; whoever has no place gets nothing. A profile
-- gives each bidder the number of one of its values.
use Rattle.std.specs.Prelude.{ℕ, zero, suc, ◌+◌, ◌==◌, Bool, ◌&&◌, ◌||◌, nat_lt, if◌then◌else◌, ℤ, pos, ◌-ℤ◌, ◌*ℤ◌, List, length, slice_index}
use Rattle.md_math.specs.Lists.{list_to}
use Rattle.md_math.specs.Sums.{sum_to}
use Rattle.md_space.specs.Profiles.{replaced}
use Rattle.md_setting.specs.Grouped.{GroupedAuction, bidder_count, group_of, value_at}
use Rattle.md_bidders.specs.Assignments.{amount_of}
use Rattle.md_list.specs.Ranks.{Rank, place_of}

-- ---- who gets which slot

-- the place of the value that bidder i has in the profile
abbrev pub place_at : GroupedAuction → List Rank → List ℕ → ℕ → ℕ
place_at a ranks t i = place_of ranks (group_of a i) (slice_index t i)

-- whether bidder j goes before bidder i
abbrev pub is_before : GroupedAuction → List Rank → List ℕ → ℕ → ℕ → Bool
is_before a ranks t i j =
    nat_lt (place_at a ranks t j) (place_at a ranks t i) || (place_at a ranks t j == place_at a ranks t i && nat_lt j i)

-- how many of the places below n pass a test
abbrev pub count_to : ℕ → (ℕ → Bool) → ℕ
count_to zero test = 0
count_to (suc n) test = count_to n test + (if test n then 1 else 0)

-- how many bidders go before bidder i
abbrev pub before : GroupedAuction → List Rank → List ℕ → ℕ → ℕ
before a ranks t i = count_to (bidder_count a) (is_before a ranks t i)

-- the slot of bidder i, counted from 1, and 0 where it gets none
abbrev pub slot_at : GroupedAuction → List Rank → List ℕ → ℕ → ℕ
slot_at a ranks t i =
    if nat_lt (place_at a ranks t i) (length ranks) && nat_lt (before a ranks t i) (length a.slots)
    then suc (before a ranks t i) else 0

-- the way to give slots at the profile
abbrev pub assigned : GroupedAuction → List Rank → List ℕ → List ℕ
assigned a ranks t = list_to (bidder_count a) (slot_at a ranks t)

-- ---- what bidders get and pay

-- what bidder i gets
abbrev pub amount_at : GroupedAuction → List Rank → List ℕ → ℕ → ℕ
amount_at a ranks t i = amount_of a.slots (slot_at a ranks t i)

-- what it would get with value number v, where the others have those of the profile
abbrev pub amount_with : GroupedAuction → List Rank → List ℕ → ℕ → ℕ → ℕ
amount_with a ranks t i v = amount_at a ranks (replaced t i v) i

-- what a function of values grows by from the value before to this one; it is 0 before the first value
abbrev pub step_of : (ℕ → ℤ) → ℕ → ℤ
step_of q zero = q 0
step_of q (suc v) = q (suc v) -ℤ q v

-- for each unit the least value with which it would be had
abbrev pub pay_by : (ℕ → ℤ) → (ℕ → ℤ) → ℕ → ℤ
pay_by value q v = sum_to (suc v) (λ x. value x *ℤ step_of q x)

-- What bidder i pays: for each unit that it gets the least of its values with which it would still get it.
abbrev pub payment : GroupedAuction → List Rank → ℕ → List ℕ → ℤ
payment a ranks i t = pay_by (value_at a i) (λ v. pos (amount_with a ranks t i v)) (slice_index t i)

-- the first place below a bound at which a test holds, and the bound where there is none
abbrev pub first_to : ℕ → (ℕ → Bool) → ℕ
first_to zero test = 0
first_to (suc n) test = if test (first_to n test) then first_to n test else suc n

-- the least of the values of bidder i, up to its own, with which it would get more than so many units
abbrev pub least_value : GroupedAuction → List Rank → ℕ → List ℕ → ℕ → ℤ
least_value a ranks i t units = value_at a i (first_to (slice_index t i) (λ v. nat_lt units (amount_with a ranks t i v)))
