-- Odds of an auction of some units that treats the values of a pool alike and sells to the highest pools first.
use Rattle.std.specs.Prelude.{ℕ, ◌≡◌, suc, ◌<◌, ◌≤◌, true, ℤ, pos, ◌*ℤ◌, ◌≤ℤ◌, ◌<ℤ◌}
use Rattle.md_setting.specs.Auction.{SymmetricAuction, value_count}
use Rattle.md_border.specs.Sides.{right_by_counts}
use Rattle.md_reduced.specs.Sides.{demands_of}
use Rattle.md_iron_values.specs.Pools.{Pools}
use Rattle.md_iron_values.specs.Cuts.{begins, set_from}

-- `q` is by value how often a bidder wins, in units of one over the denominator.
pub record ArePoolOdds (a : SymmetricAuction) (units : ℕ) (pools : Pools) (den : ℤ) (q : ℕ → ℤ) : Type 0 where
  pub positive : pos 0 <ℤ den
  pub nonneg : (v : ℕ) → v < value_count a → pos 0 ≤ℤ q v
  -- a value below the reserve never wins
  pub none : (v : ℕ) → v < value_count a → v < pools.reserve → q v ≡ pos 0
  -- neighbouring values of one pool win as often
  pub alike : (v : ℕ) → suc v < value_count a → pools.reserve ≤ v → pools.first (suc v) ≡ pools.first v → q (suc v) ≡ q v
  -- a higher value wins at least as often
  pub rise : (v : ℕ) → suc v < value_count a → q v ≤ℤ q (suc v)
  -- bidders with values from the beginning of a pool on win together exactly as often as the units can go to them
  pub full : (s : ℕ) → s < value_count a → begins pools s ≡ true
      → demands_of a q (set_from (value_count a) s) ≡ den *ℤ right_by_counts a units (set_from (value_count a) s)
