use Rattle.md_iron_pools.specs.Pooling.{pools_of}
use Rattle.md_threshold.specs.Awards.{AreShares}
use Rattle.md_threshold.proofs.awarding.shares.Given as goal

abbrev pub invariant-loop-bidder : goal.invariant-loop-bidder
invariant-loop-bidder l = AreShares l.auction l.units (pools_of l.pools) l.profile l.draw l.bidder l.shares.items
