-- How far the curve of virtual values lies above its lower hull.
use Rattle.std.specs.Prelude.{ℕ, zero, suc, nat_lt, if◌then◌else◌, ℤ, pos, ◌-ℤ◌, ◌*ℤ◌}
use Rattle.std.specs.Int.{int_min}
use Rattle.md_setting.specs.Auction.{SymmetricAuction}
use Rattle.md_iron_values.specs.Pools.{Pools, over_pool}
use Rattle.md_iron_values.specs.VirtualValues.{weight_to, virtual_to}

-- the least of a function at the places up to one
abbrev pub least_to : (ℕ → ℤ) → ℕ → ℤ
least_to g zero = g 0
least_to g (suc j) = int_min (least_to g j) (g (suc j))

-- where nothing is sold, above the least place so far; else above the chord of the pool, times its weight
abbrev pub gap_scale : (ℕ → ℤ) → Pools → ℕ → ℤ
gap_scale weight pools j = if nat_lt j pools.reserve then pos 1 else over_pool weight pools j

abbrev pub gap_by : (ℕ → ℤ) → (ℕ → ℤ) → Pools → ℕ → ℤ
gap_by weight sum pools j =
    if nat_lt j pools.reserve then sum j -ℤ least_to sum j
    else (sum j -ℤ sum (pools.first j)) *ℤ over_pool weight pools j -ℤ over_pool sum pools j *ℤ (weight j -ℤ weight (pools.first j))

abbrev pub scale_in : SymmetricAuction → Pools → ℕ → ℤ
scale_in a pools j = gap_scale (weight_to a) pools j

abbrev pub gap_in : SymmetricAuction → Pools → ℕ → ℤ
gap_in a pools j = gap_by (weight_to a) (virtual_to a) pools j
