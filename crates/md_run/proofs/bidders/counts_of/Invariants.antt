use Rattle.std.proofs.Common.{◌≡◌}
use Rattle.md_counts.specs.Weights.{counts_of}
use Rattle.md_run.proofs.bidders.counts_of.Given as goal

abbrev pub invariant-loop-kind : goal.invariant-loop-kind
invariant-loop-kind l = l.counts.items ≡ counts_of l.kind l.reports
