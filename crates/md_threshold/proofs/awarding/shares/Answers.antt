use Rattle.md_iron_pools.specs.Pooling.{pools_of}
use Rattle.md_threshold.proofs.ShareLaws.{next-share}
use Rattle.md_threshold.proofs.awarding.shares.Goals as goal

pub loop-bidder-preserved : goal.loop-bidder-preserved
loop-bidder-preserved c =
    next-share c.args.auction.now c.args.units (pools_of c.args.pools.now) c.args.profile.now c.args.draw c.loop-bidder.bidder c.loop-bidder.shares.items _ _ c.loop-bidder.invariant c.share_of.ensures c.in_ok-push.ensures.items
