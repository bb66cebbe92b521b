use Rattle.std.proofs.Common.{◌-◌}
use Rattle.md_counts.specs.Counts.{counts_at}
use Rattle.md_counts.proofs.Walks.{IsWalk}
use Rattle.md_counts.proofs.counts.push_list.Given as goal

abbrev pub invariant-loop-kind : goal.invariant-loop-kind
invariant-loop-kind l = IsWalk l.fn.table.items l.table.items (counts_at l.bidders l.kinds l.rank) l.left (l.kinds - l.kind) l.place
