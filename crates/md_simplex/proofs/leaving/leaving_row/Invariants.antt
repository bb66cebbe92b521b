use Rattle.md_simplex.specs.Rivals.{IsBestRival}
use Rattle.md_simplex.proofs.leaving.leaving_row.Given as goal

abbrev pub invariant-loop-row : goal.invariant-loop-row
invariant-loop-row l = IsBestRival l.dict l.column l.row l.best
