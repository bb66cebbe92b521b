-- The mechanism of a mass table: at each profile a mass goes to the bidders with its value, in equal parts.
use Rattle.std.specs.Prelude.{ℕ, zero, suc, ◌*◌, ◌/◌, ◌^◌, ℤ, pos, ◌-ℤ◌, ◌*ℤ◌, List, slice_index, if◌then◌else◌}
use Rattle.md_math.specs.Lists.{number_at}
use Rattle.md_math.specs.Products.{product_to, factorial}
use Rattle.md_math.specs.Sums.{sum_to}
use Rattle.md_setting.specs.Auction.{SymmetricAuction, value_count}
use Rattle.md_setting.specs.General.{general_of}
use Rattle.md_mech.specs.declared.mechanism.Mechanism.{Mechanism}
use Rattle.md_mech.specs.ByProfiles.{mechanism_by}
use Rattle.md_counts.specs.Weights.{has_counts, weight_of_counts}
use Rattle.md_expost.specs.declared.masses.Masses.{Masses}
use Rattle.md_expost.specs.Masses.{rank_count, counts_in, mass_at}

-- a number that the weight of each list of counts divides, times each of its counts: the orders of all bidders, times the
-- product of all weights to the power of the number of bidders
abbrev pub all_orders : SymmetricAuction → ℕ
all_orders a = factorial a.bidders * product_to (value_count a) (slice_index a.weights) ^ a.bidders

-- its part for one bidder with a value, at a profile with the counts
abbrev pub share : SymmetricAuction → List ℕ → ℕ → ℕ
share a counts v = all_orders a / (weight_of_counts a.weights a.bidders counts * slice_index counts v)

-- how often bidder i, counted from 0, gets the item at the profile t: its part of the mass of its value, at the counts of t
abbrev pub win_of : SymmetricAuction → Masses → List ℕ → ℕ → ℤ
win_of a y t i =
    sum_to (rank_count a) (λ rank.
    if has_counts (counts_in a rank) t
    then mass_at a y rank (slice_index t i) *ℤ pos (share a (counts_in a rank) (slice_index t i))
    else pos 0)

-- the denominator of the mechanism
abbrev pub whole_of : SymmetricAuction → Masses → ℤ
whole_of a y = y.den *ℤ pos (all_orders a)

-- how often an outcome comes at the profile t: bidder i gets the item at outcome i + 1, and what is left is kept
abbrev pub lottery_of : SymmetricAuction → Masses → List ℕ → ℕ → ℤ
lottery_of a y t zero = whole_of a y -ℤ sum_to a.bidders (win_of a y t)
lottery_of a y t (suc i) = win_of a y t i

-- the mechanism of a mass table in which each bidder pays by the kind of its value, in units of one over the denominator
-- of the masses
abbrev pub mechanism_of : SymmetricAuction → Masses → List ℤ → Mechanism
mechanism_of a y pays =
    mechanism_by (general_of a) (whole_of a y) (lottery_of a y) (λ i t. number_at pays (slice_index t i) *ℤ pos (all_orders a))
