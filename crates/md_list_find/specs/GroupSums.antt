-- The records of a list with what their values add up to.
use Rattle.std.specs.Prelude.{ℕ, ◌<◌, List, length, map}
use Rattle.md_setting.specs.Grouped.{GroupedAuction}
use Rattle.md_list.specs.declared.ranked.Ranked.{Ranked}
use Rattle.md_list.specs.Ranks.{Rank}
use Rattle.md_list_gains.specs.GroupSums.{AreRankSums}
use Rattle.md_list_find.specs.declared.order.Pool.{Pool}
use Rattle.md_list_find.specs.Listing.{IsListOf, IsListUpTo}
use Rattle.md_list_find.specs.Places.{pool_at}

-- a record of a list, without its sums
abbrev pub rank_of : Pool → Rank
rank_of pool = record { group = pool.group; first = pool.first; stop = pool.stop }

abbrev pub ranked_of : Pool → Ranked
ranked_of pool = record { group = pool.group; first = pool.first; stop = pool.stop }

-- the sums of a record are right, and small
abbrev pub IsSummed : GroupedAuction → Pool → Type 0
IsSummed a pool = AreRankSums a (rank_of pool) pool.sums

abbrev pub AreSummed : GroupedAuction → List Pool → Type 0
AreSummed a pools = (p : ℕ) → p < length pools → IsSummed a (pool_at pools p)

-- the pools of the first k groups in their order, and with those of group k up to a place
pub record AreListed (a : GroupedAuction) (k : ℕ) (pools : List Pool) : Type 0 where
  pub list : IsListOf a k (map rank_of pools)
  pub summed : AreSummed a pools

pub record AreListedUpTo (a : GroupedAuction) (k first : ℕ) (pools : List Pool) : Type 0 where
  pub list : IsListUpTo a k first (map rank_of pools)
  pub summed : AreSummed a pools
