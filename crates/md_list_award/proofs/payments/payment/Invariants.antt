use Rattle.std.proofs.Common.{◌≡◌, pos}
use Rattle.md_setting.specs.Grouped.{value_at}
use Rattle.md_list.specs.Lists.{ranks_of}
use Rattle.md_list.specs.Rule.{amount_with}
use Rattle.md_list_award.proofs.Sizes.{amount_below, paid_to}
use Rattle.md_list_award.proofs.payments.payment.Given as goal

abbrev pub invariant-loop-value : goal.invariant-loop-value
invariant-loop-value l = record {
  paid : l.pays ≡ paid_to (value_at l.auction l.bidder) (amount_with l.auction (ranks_of l.ranks) l.profile l.bidder) l.value;
  last : l.below ≡ pos (amount_below (amount_with l.auction (ranks_of l.ranks) l.profile l.bidder) l.value);
}
