use Rattle.md_math.specs.FirstFailure.{HoldsBelow}
use Rattle.md_math.specs.Lists.{number_at}
use Rattle.md_lp.specs.Point.{MeetsRow}
use Rattle.md_cert.proofs.points.broken_row.Given as goal

abbrev pub invariant-loop-row : goal.invariant-loop-row
invariant-loop-row l = HoldsBelow l.row (MeetsRow l.lp l.den (number_at l.point))
