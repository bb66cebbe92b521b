use Rattle.std.proofs.Common.{◌≤◌}
use Rattle.md_counts.specs.Ranks.{lists_before}
use Rattle.md_counts.proofs.ways.Ways.first_at.Given as goal

abbrev pub invariant-loop-first : goal.invariant-loop-first
invariant-loop-first l = lists_before l.bidders l.others l.first ≤ l.rank
