use Rattle.std.proofs.Common.{length, sym}
use Rattle.md_list.specs.Lists.{ranks_of}
use Rattle.md_list_check.proofs.OrderLaws.{sums-small, ordered-or_not}
use Rattle.md_list_check.proofs.order.order_fault.Goals as goal

pub first_unordered-requires-clause-small : goal.first_unordered-requires-clause-small
first_unordered-requires-clause-small c = rw c.deref.ensures.value (sums-small c.args.auction.now (ranks_of c.args.ranks.now) c.in_ok-sums.sums.items c.in_ok-sums.ensures.sums)

pub returns : goal.returns
returns c =
    ordered-or_not c.args.auction.now (ranks_of c.args.ranks.now) c.args.levels.now c.in_ok-sums.sums.items c.in_ok-sums.ensures.sums (length c.args.ranks.now) c.first_unordered.result (sym c.in_ok-sums.ensures.long)
    (rw c.deref.ensures.value at c.first_unordered.ensures)
