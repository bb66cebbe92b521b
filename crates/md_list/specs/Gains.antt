-- What values bring to the designer, and in welfare (Myerson 1981): the virtual values of each group, times the weights of its values.
use Rattle.std.specs.Prelude.{ℕ, suc, ℤ, pos, ◌+ℤ◌, ◌-ℤ◌, ◌*ℤ◌, slice_index}
use Rattle.md_math.specs.Lists.{number_at}
use Rattle.md_math.specs.Sums.{sum_to, total_by}
use Rattle.md_setting.specs.Grouped.{Group, GroupedAuction}

-- the weight of a value, and that of all values from it on
abbrev pub weight_in : Group → ℕ → ℤ
weight_in group v = pos (slice_index group.weights v)

abbrev pub weight_from : Group → ℕ → ℤ
weight_from group v = total_by pos group.weights -ℤ sum_to v (weight_in group)

-- What it brings the designer, times the weight of the value, that a bidder of the group with this value gets a unit: what the
-- designer has of it, more than where nobody gets it; and what all bidders with this value or a higher one then pay for it, less what
-- those with a higher value pay less for theirs.
abbrev pub gain_of : GroupedAuction → Group → ℕ → ℤ
gain_of a group v =
    weight_in group v *ℤ ((a.welfare *ℤ number_at group.values v +ℤ group.worth) -ℤ a.keep)
    +ℤ a.revenue *ℤ (number_at group.values v *ℤ weight_from group v -ℤ number_at group.values (suc v) *ℤ weight_from group (suc v))

-- what it brings in welfare, times the weight of the value
abbrev pub benefit_of : Group → ℕ → ℤ
benefit_of group v = weight_in group v *ℤ number_at group.values v

-- the sum of f over the values from one up to, and without, another
abbrev pub between : (ℕ → ℤ) → ℕ → ℕ → ℤ
between f first stop = sum_to stop f -ℤ sum_to first f
