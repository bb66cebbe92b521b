-- The odds and payments of the threshold rule in closed form.
use Rattle.std.specs.Prelude.{ℕ, ◌≡◌, ◌<◌, ◌≤◌, ℤ, pos, ◌-ℤ◌, ◌*ℤ◌, ◌<ℤ◌, length}
use Rattle.md_math.specs.Lists.{number_at, list_to}
use Rattle.md_setting.specs.Auction.{SymmetricAuction, value_count}
use Rattle.md_border.specs.declared.interim.Interim.{Interim}
use Rattle.md_border.specs.Sides.{right_by_counts}
use Rattle.md_iron_values.specs.Cuts.{set_from}
use Rattle.md_iron_values.specs.Odds.{share_den, pay_by}
use Rattle.md_iron_values.specs.Pools.{Pools, over_pool}
use Rattle.md_iron_values.specs.VirtualValues.{weight_to}

-- how often units can go to bidders with values from one on, over all profiles by weight
abbrev pub sold_from : SymmetricAuction → ℕ → ℕ → ℤ
sold_from a units x = right_by_counts a units (set_from (value_count a) x)

-- `q` is by value how often a bidder wins, in units of one over the denominator: a value below the reserve never; the bidders of a
-- pool together as much more often as units can go to bidders from the beginning of the pool on than to those behind it.
pub record AreClosedOdds (a : SymmetricAuction) (units : ℕ) (pools : Pools) (den : ℤ) (q : ℕ → ℤ) : Type 0 where
  pub positive : pos 0 <ℤ den
  pub none : (v : ℕ) → v < value_count a → v < pools.reserve → q v ≡ pos 0
  pub some : (v : ℕ) → v < value_count a → pools.reserve ≤ v
      → (share_den a *ℤ over_pool (weight_to a) pools v) *ℤ q v ≡ den *ℤ (sold_from a units (pools.first v) -ℤ sold_from a units (pools.stop v))

-- The odds of all values are so, over the denominator of the auction, and each value pays so much that it gains nothing by telling
-- the next one below.
pub record IsClosedInterim (a : SymmetricAuction) (units : ℕ) (pools : Pools) (interim : Interim) : Type 0 where
  pub den_is : interim.den ≡ share_den a
  pub one_odds : length interim.odds ≡ value_count a
  pub odds : AreClosedOdds a units pools interim.den (number_at interim.odds)
  pub pays_are : interim.pays ≡ list_to (value_count a) (pay_by (number_at a.values) (number_at interim.odds))
