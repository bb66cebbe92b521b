use Rattle.md_list.specs.Lists.{ranks_of}
use Rattle.md_list_award.specs.Bids.{AreSlotsTo}
use Rattle.md_list_award.proofs.amounts.slots_of.Given as goal

abbrev pub invariant-loop-bidder : goal.invariant-loop-bidder
invariant-loop-bidder l = AreSlotsTo l.auction (ranks_of l.ranks) l.profile l.bidder l.slots.items
