use Rattle.std.proofs.Common.{◌≡◌, ◌≤◌, ◌-◌, length}
use Rattle.md_setting.specs.Auction.{value_count}
use Rattle.md_iron_values.specs.VirtualValues.{weight_to, virtual_to}
use Rattle.md_iron_pools.proofs.Lists.{firsts, stops}
use Rattle.md_iron_pools.proofs.PooledTo.{IsPooledTo}
use Rattle.md_iron_pools.proofs.RuleLaws.{IsSoonestTo}
use Rattle.md_iron_pools.proofs.pooling.pool.Given as goal

abbrev pub invariant-loop-first : goal.invariant-loop-first
invariant-loop-first l = record {
  sold : l.reserve ≤ l.first;
  inside : l.first ≤ value_count l.auction;
  one_each : length l.by_kind.items ≡ l.first;
  pooled : IsPooledTo (value_count l.auction) (weight_to l.auction) (virtual_to l.auction) l.reserve l.first (firsts l.by_kind.items) (stops l.by_kind.items);
  soonest : IsSoonestTo (weight_to l.auction) (virtual_to l.auction) l.reserve l.first (firsts l.by_kind.items) (stops l.by_kind.items);
}

abbrev pub decreases-loop-first : goal.decreases-loop-first
decreases-loop-first l = value_count l.auction - l.first
