use Rattle.std.proofs.Common.{◌≡◌, ◌≤◌, take}
use Rattle.md_counts.specs.Weights.{count_in}
use Rattle.md_run.proofs.bidders.numbered.Given as goal

abbrev pub invariant-loop-bidder : goal.invariant-loop-bidder
invariant-loop-bidder l = (l.others ≡ count_in l.kind (take l.bidder l.reports)) × (l.others ≤ l.number)
