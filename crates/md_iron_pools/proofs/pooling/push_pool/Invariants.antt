use Rattle.std.proofs.Common.{◌≡◌, ◌++◌, ◌-◌}
use Rattle.std.specs.Prelude.{replicate}
use Rattle.md_iron_pools.proofs.pooling.push_pool.Given as goal

abbrev pub invariant-loop-kind : goal.invariant-loop-kind
invariant-loop-kind l = l.pools.items ≡ l.initial.pools.items ++ replicate (l._kind - l.pool.first) l.pool
