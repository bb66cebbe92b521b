use Rattle.md_counts.proofs.Walks.{IsSum}
use Rattle.md_counts.proofs.counts.Counts.rank.Given as goal

abbrev pub invariant-loop-kind : goal.invariant-loop-kind
invariant-loop-kind l = IsSum l.self.bidders l.counts l.kind l.left l.rank
