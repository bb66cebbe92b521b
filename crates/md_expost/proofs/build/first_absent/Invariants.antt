use Rattle.md_math.specs.FirstFailure.{HoldsBelow}
use Rattle.md_expost.specs.Refusals.{IsPresentAt}
use Rattle.md_expost.proofs.build.first_absent.Given as goal

abbrev pub invariant-loop-place : goal.invariant-loop-place
invariant-loop-place l = HoldsBelow l.place (IsPresentAt l.auction l.rows)
