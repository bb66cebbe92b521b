-- The pools that the rule of ironing names. Where virtual values tie, lowest chords cut off others too: values that add up to
-- nothing may buy or not, and neighbouring pools of the same mean may be one.
use Rattle.std.specs.Prelude.{ℕ, ◌≡◌, ◌<◌, ◌≤◌, ℤ, ◌-ℤ◌, ◌*ℤ◌, ◌<ℤ◌}
use Rattle.md_setting.specs.Auction.{SymmetricAuction, value_count}
use Rattle.md_iron_values.specs.Pools.{Pools, IsLow, IsPooled}
use Rattle.md_iron_values.specs.VirtualValues.{weight_to, virtual_to}

-- the curve is at the place x higher than its chord from the place s to the place e
pub record IsHigher (weight sum : ℕ → ℤ) (s e x : ℕ) : Type 0 where
  pub higher : ((sum e -ℤ sum s) *ℤ (weight x -ℤ weight s)) <ℤ ((sum x -ℤ sum s) *ℤ (weight e -ℤ weight s))

-- No more values buy than must, and no pool goes on longer than it must: the reserve is the last place at which the sum is least,
-- and from there on each pool ends at the first place whose chord from the pool's beginning is lowest.
pub record IsPooledByRule (kinds : ℕ) (weight sum : ℕ → ℤ) (pools : Pools) : Type 0 where
  pub pooled : IsPooled kinds weight sum pools
  -- behind the reserve the sum is greater
  pub last : (x : ℕ) → pools.reserve < x → x ≤ kinds → sum pools.reserve <ℤ sum x
  -- no chord from the beginning of a pool is lower
  pub lowest : (j x : ℕ) → pools.reserve ≤ j → j < kinds → pools.first j ≤ x → x ≤ kinds → IsLow weight sum (pools.first j) (pools.stop j) x
  -- and none that ends sooner is as low
  pub soonest : (j x : ℕ) → pools.reserve ≤ j → j < kinds → pools.first j < x → x < pools.stop j → IsHigher weight sum (pools.first j) (pools.stop j) x

-- the values of an auction are pooled so by their virtual values
abbrev pub IsAuctionByRule : SymmetricAuction → Pools → Type 0
IsAuctionByRule a pools = IsPooledByRule (value_count a) (weight_to a) (virtual_to a) pools

-- as many of the lowest values do not buy, and each value is in the same pool
pub record AreSamePools (kinds : ℕ) (one other : Pools) : Type 0 where
  pub same_reserve : one.reserve ≡ other.reserve
  pub same_pool : (j : ℕ) → j < kinds → (one.first j ≡ other.first j) × (one.stop j ≡ other.stop j)
