-- The parts of gains.
use Rattle.std.specs.Prelude.{ℕ, ℤ, ◌+ℤ◌, ◌-ℤ◌, ◌*ℤ◌}
use Rattle.md_math.specs.Lists.{number_at}
use Rattle.md_setting.specs.Grouped.{Group, GroupedAuction}
use Rattle.md_list.specs.Gains.{weight_from}

-- what the designer has of a unit that a bidder with a value gets, more than where nobody gets it
abbrev pub surplus_of : GroupedAuction → Group → ℕ → ℤ
surplus_of a group v = (a.welfare *ℤ number_at group.values v +ℤ group.worth) -ℤ a.keep

-- a value, times the weight of all from it on
abbrev pub paid_from : Group → ℕ → ℤ
paid_from group v = number_at group.values v *ℤ weight_from group v
