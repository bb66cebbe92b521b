use Rattle.std.proofs.Common.{◌+◌}
use Rattle.md_math.specs.FirstFailure.{HoldsBelow}
use Rattle.md_math.specs.Lists.{number_at}
use Rattle.md_cert.specs.Certified.{ColumnHolds}
use Rattle.md_cert.proofs.columns.wrong_column_in_run.Given as goal

abbrev pub invariant-loop-place : goal.invariant-loop-place
invariant-loop-place l = HoldsBelow (l.first + l.place) (ColumnHolds l.lp l.bound.den (number_at l.bound.face) (number_at l.bound.main))
