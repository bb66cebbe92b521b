use Rattle.md_list.specs.Lists.{ranks_of}
use Rattle.md_list_award.specs.Bids.{AreBidsTo}
use Rattle.md_list_award.proofs.bids.bids.Given as goal

abbrev pub invariant-loop-bidder : goal.invariant-loop-bidder
invariant-loop-bidder l = AreBidsTo l.auction (ranks_of l.ranks) l.profile l.bidder l.bids.items
