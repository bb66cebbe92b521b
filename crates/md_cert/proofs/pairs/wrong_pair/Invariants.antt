use Rattle.md_math.specs.FirstFailure.{HoldsBelow}
use Rattle.md_math.specs.Lists.{number_at}
use Rattle.md_cert.specs.Certified.{PairHolds}
use Rattle.md_cert.proofs.pairs.wrong_pair.Given as goal

abbrev pub invariant-loop-row : goal.invariant-loop-row
invariant-loop-row l = HoldsBelow l.row (PairHolds l.lp (number_at l.face) (number_at l.main))
