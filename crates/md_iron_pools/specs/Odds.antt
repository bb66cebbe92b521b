-- Odds of pools in lists, over the denominator of the auction.
use Rattle.std.specs.Prelude.{ℕ, ◌≡◌, ◌*◌, ◌^◌, ◌<◌, ◌≤◌, ℤ, pos, ◌-ℤ◌, ◌*ℤ◌, ◌≤ℤ◌, List, length}
use Rattle.md_math.specs.Lists.{number_at}
use Rattle.md_setting.specs.Auction.{SymmetricAuction, value_count}
use Rattle.md_iron_values.specs.Pools.{Pools, over_pool}
use Rattle.md_iron_values.specs.VirtualValues.{weight_to}
use Rattle.md_threshold_laws.specs.ClosedOdds.{sold_from}

-- The odds of the value v: none below the reserve; the bidders of a pool together win as much more often as units can go to bidders
-- from the beginning of the pool on than to those behind it.
pub record IsOddsOf (a : SymmetricAuction) (units : ℕ) (pools : Pools) (v : ℕ) (odds : ℤ) : Type 0 where
  pub none : v < pools.reserve → odds ≡ pos 0
  pub some : pools.reserve ≤ v → over_pool (weight_to a) pools v *ℤ odds ≡ sold_from a units (pools.first v) -ℤ sold_from a units (pools.stop v)

-- those of the first n values
pub record AreOddsTo (a : SymmetricAuction) (units : ℕ) (pools : Pools) (n : ℕ) (odds : List ℤ) : Type 0 where
  pub count : length odds ≡ n
  pub at : (v : ℕ) → v < n → IsOddsOf a units pools v (number_at odds v)

-- there is one for each value, not negative, and none is larger than so
pub record AreSmallOdds (a : SymmetricAuction) (odds : List ℤ) : Type 0 where
  pub one_each : length odds ≡ value_count a
  pub at : (v : ℕ) → v < value_count a → (pos 0 ≤ℤ number_at odds v) × (number_at odds v ≤ℤ pos (4 * 10 ^ 12))
