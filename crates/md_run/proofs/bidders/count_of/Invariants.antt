use Rattle.std.proofs.Common.{◌≡◌, ◌≤◌, take}
use Rattle.md_counts.specs.Weights.{count_in}
use Rattle.md_run.proofs.bidders.count_of.Given as goal

abbrev pub invariant-loop-report : goal.invariant-loop-report
invariant-loop-report l = (l.count ≡ count_in l.kind (take l.report-index l.reports)) × (l.count ≤ l.report-index)
