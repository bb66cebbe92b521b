-- Virtual values (Myerson 1981) of a symmetric auction, over its finitely many values, each times the weight of its value.
use Rattle.std.specs.Prelude.{ℕ, ◌+◌, ℤ, pos, ◌+ℤ◌, ◌-ℤ◌, ◌*ℤ◌, slice_index}
use Rattle.md_math.specs.Lists.{number_at}
use Rattle.md_math.specs.Sums.{sum_to}
use Rattle.md_setting.specs.Auction.{SymmetricAuction, value_count, total_weight}
use Rattle.md_border.specs.Worth.{surplus_of}
use Rattle.md_iron_values.specs.Weights.{weight_before}
use Rattle.md_iron_values.specs.Pools.{Pools, IsPooled}

-- the weight of the values below a place, and of those from it on
abbrev pub weight_to : SymmetricAuction → ℕ → ℤ
weight_to a x = pos (weight_before (slice_index a.weights) x)

abbrev pub weight_from : SymmetricAuction → ℕ → ℤ
weight_from a x = pos (total_weight a.weights) -ℤ weight_to a x

-- What it is worth to the designer that a bidder with a value gets the item, times the weight of the value: what the designer
-- has of the bidder's utility, more than where the item is kept; and what all bidders with this value or a higher one then pay
-- for it, less what those with a higher value pay less for theirs.
abbrev pub virtual_value : SymmetricAuction → ℕ → ℤ
virtual_value a j =
    pos (slice_index a.weights j) *ℤ surplus_of a j
    +ℤ a.revenue *ℤ (number_at a.values j *ℤ weight_from a j -ℤ number_at a.values (j + 1) *ℤ weight_from a (j + 1))

-- the sum of the virtual values below a place
abbrev pub virtual_to : SymmetricAuction → ℕ → ℤ
virtual_to a x = sum_to x (virtual_value a)

-- the values of an auction are pooled by their virtual values
abbrev pub IsPooledAuction : SymmetricAuction → Pools → Type 0
IsPooledAuction a pools = IsPooled (value_count a) (weight_to a) (virtual_to a) pools
