use Rattle.md_math.specs.FirstFailure.{HoldsBelow}
use Rattle.md_expost.specs.Refusals.{IsMassAt}
use Rattle.md_expost.proofs.build.first_negative.Given as goal

abbrev pub invariant-loop-place : goal.invariant-loop-place
invariant-loop-place l = HoldsBelow l.place (IsMassAt l.rows)
