-- Profiles of values that pools are of.
use Rattle.std.specs.Prelude.{ℕ, ◌<◌, ◌≤◌, List, length, slice_index}
use Rattle.md_iron_pools.specs.declared.pools.AuctionPools.{AuctionPools}

-- each bidder has one of the values that are in pools
pub record AreKinds (kept : AuctionPools) (t : List ℕ) : Type 0 where
  pub few : length t ≤ 12
  pub below : (i : ℕ) → i < length t → slice_index t i < length kept.by_kind.items
