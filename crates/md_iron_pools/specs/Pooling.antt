-- What the pools of an auction are that are kept in a list.
use Rattle.std.specs.Prelude.{◌≡◌, ℕ, ◌+◌, length, slice_index_or}
use Rattle.md_setting.specs.Auction.{SymmetricAuction, value_count}
use Rattle.md_iron_values.specs.Pools.{Pools}
use Rattle.md_iron_values.specs.VirtualValues.{IsPooledAuction}
use Rattle.md_iron_pools.specs.declared.pools.Pool.{Pool}
use Rattle.md_iron_pools.specs.declared.pools.AuctionPools.{AuctionPools}

-- the pool at a place of the list
abbrev pub pool_at : AuctionPools → ℕ → Pool
pool_at kept j = slice_index_or kept.by_kind.items j (record { first = 0; stop = 0 })

-- where each value's pool begins and ends
abbrev pub pools_of : AuctionPools → Pools
pools_of kept = record { reserve = kept.reserve; first = λ j. (pool_at kept j).first; stop = λ j. (pool_at kept j).stop }

-- the pool of one value alone
abbrev pub lone_pool : ℕ → Pool
lone_pool j = record { first = j; stop = j + 1 }

-- there is a pool for each value of the auction, by their virtual values
pub record IsPooling (a : SymmetricAuction) (kept : AuctionPools) : Type 0 where
  pub one_each : length kept.by_kind.items ≡ value_count a
  pub pooled : IsPooledAuction a (pools_of kept)
