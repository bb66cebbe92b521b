use Rattle.md_lp.proofs.ColumnRuns.{AreSumsSoFar}
use Rattle.md_lp.proofs.lp.Lp.column_sums.Given as goal

abbrev pub invariant-loop-row : goal.invariant-loop-row
invariant-loop-row l = AreSumsSoFar l.self l.numbers l.first l.row l.sums
