use Rattle.std.proofs.Common.{◌≡◌}
use Rattle.md_counts.specs.Kept.{table_to}
use Rattle.md_counts.proofs.counts.table_of.Given as goal

abbrev pub invariant-loop-rank : goal.invariant-loop-rank
invariant-loop-rank l = l.table.items ≡ table_to l.bidders l.kinds l.rank
