use Rattle.md_math.specs.FirstFailure.{HoldsBelow}
use Rattle.md_math.specs.Lists.{number_at}
use Rattle.md_cert.specs.Certified.{FaceHolds}
use Rattle.md_cert.proofs.pairs.wrong_face.Given as goal

abbrev pub invariant-loop-row : goal.invariant-loop-row
invariant-loop-row l = HoldsBelow l.row (FaceHolds l.lp (number_at l.face))
