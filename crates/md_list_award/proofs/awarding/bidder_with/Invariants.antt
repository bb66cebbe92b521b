use Rattle.std.proofs.Common.{◌≢◌, ◌<◌, ℕ}
use Rattle.std.specs.Prelude.{slice_index}
use Rattle.md_list_award.proofs.awarding.bidder_with.Given as goal

abbrev pub invariant-loop-bidder : goal.invariant-loop-bidder
invariant-loop-bidder l = (i : ℕ) → i < l.bidder → slice_index l.slots i ≢ l.slot
