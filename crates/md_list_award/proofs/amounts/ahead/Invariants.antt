use Rattle.std.proofs.Common.{◌≡◌, ◌==◌, false, if◌then◌else◌}
use Rattle.md_list.specs.Rule.{count_to}
use Rattle.md_list_award.specs.Bids.{bid_at, goes_first}
use Rattle.md_list_award.proofs.amounts.ahead.Given as goal

abbrev pub invariant-loop-number : goal.invariant-loop-number
invariant-loop-number l = l.count ≡ count_to l.number (λ j. if j == l.bidder then false else goes_first (bid_at l.bids j) j l.place l.bidder)
