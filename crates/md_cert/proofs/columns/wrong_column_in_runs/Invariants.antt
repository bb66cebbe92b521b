use Rattle.std.proofs.Common.{◌≡◌, ◌-◌, ◌≤◌, length}
use Rattle.md_math.specs.FirstFailure.{HoldsBelow}
use Rattle.md_math.specs.Lists.{number_at}
use Rattle.md_cert.specs.Certified.{ColumnHolds}
use Rattle.md_cert.proofs.columns.wrong_column_in_runs.Given as goal

abbrev pub invariant-loop-first : goal.invariant-loop-first
invariant-loop-first l = record {
  before : HoldsBelow l.first (ColumnHolds l.lp l.bound.den (number_at l.bound.face) (number_at l.bound.main));
  within : l.first ≤ l.end;
  room : length l.face_sums ≡ l.room;
  same : length l.main_sums ≡ l.room;
}

abbrev pub decreases-loop-first : goal.decreases-loop-first
decreases-loop-first l = l.end - l.first
