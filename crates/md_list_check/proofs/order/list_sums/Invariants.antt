use Rattle.std.proofs.Common.{◌≡◌, length}
use Rattle.md_list.specs.Lists.{ranks_of}
use Rattle.md_list_check.specs.ListSums.{AreListSums}
use Rattle.md_list_check.proofs.order.list_sums.Given as goal

abbrev pub invariant-loop-place : goal.invariant-loop-place
invariant-loop-place l = (length l.sums.items ≡ l.place) × AreListSums l.auction (ranks_of l.ranks) l.sums.items
