-- How often a bidder wins by the threshold rule on average over the values of the others.
use Rattle.std.specs.Prelude.{ℕ, ◌-◌, ◌^◌, ℤ, pos, ◌*ℤ◌, ◌∷◌, slice_index}
use Rattle.md_math.specs.Products.{product_by}
use Rattle.md_math.specs.Sums.{total_by}
use Rattle.md_setting.specs.Auction.{SymmetricAuction, value_count, total_weight}
use Rattle.md_counts.specs.Weights.{value_lists}
use Rattle.md_iron_values.specs.Pools.{Pools}
use Rattle.md_threshold_laws.specs.Rule.{draw_count, chance}

-- at how many draws a bidder with a value wins, over all lists of the others' values by weight
abbrev pub interim_odds : SymmetricAuction → ℕ → Pools → ℕ → ℤ
interim_odds a units pools v =
    total_by (λ others. pos (product_by (slice_index a.weights) others) *ℤ pos (chance units pools (v ∷ others) v)) (value_lists (a.bidders - 1) (value_count a))

-- so many draws there are over all these lists
abbrev pub interim_den : SymmetricAuction → ℤ
interim_den a = pos draw_count *ℤ pos (total_weight a.weights ^ (a.bidders - 1))
