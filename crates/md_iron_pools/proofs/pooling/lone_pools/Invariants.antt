use Rattle.std.proofs.Common.{◌≡◌}
use Rattle.md_math.specs.Lists.{list_to}
use Rattle.md_iron_pools.specs.Pooling.{lone_pool}
use Rattle.md_iron_pools.proofs.pooling.lone_pools.Given as goal

abbrev pub invariant-loop-kind : goal.invariant-loop-kind
invariant-loop-kind l = l.pools.items ≡ list_to l.kind lone_pool
