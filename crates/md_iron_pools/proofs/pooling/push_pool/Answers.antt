use Rattle.std.proofs.Common.{arith}
use Rattle.md_iron_pools.proofs.Lists.{replicate-push}
use Rattle.md_iron_pools.proofs.pooling.push_pool.Goals as goal

pub loop-kind-preserved : goal.loop-kind-preserved
loop-kind-preserved c =
    replicate-push c.args.pools.now.items c.loop-kind.pools.items _ c.args.pool.first c.loop-kind._kind c.args.pool (omega (arith, c.loop-kind.auto)) c.loop-kind.invariant c.in_ok-push.ensures.items
