use Rattle.std.proofs.Common.{◌≡◌, ◌-◌, ◌≤◌, length}
use Rattle.md_math.specs.FirstFailure.{HoldsBelow}
use Rattle.md_math.specs.Lists.{number_at}
use Rattle.md_cert.specs.Certified.{FaceSumHolds}
use Rattle.md_cert.proofs.columns.wrong_face_in_runs.Given as goal

abbrev pub invariant-loop-first : goal.invariant-loop-first
invariant-loop-first l = record { before : HoldsBelow l.first (FaceSumHolds l.lp (number_at l.face)); within : l.first ≤ l.end; room : length l.sums ≡ l.room }

abbrev pub decreases-loop-first : goal.decreases-loop-first
decreases-loop-first l = l.end - l.first
