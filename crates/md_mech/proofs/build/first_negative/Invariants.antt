use Rattle.md_math.specs.FirstFailure.{HoldsBelow}
use Rattle.md_mech.specs.Refusals.{IsChanceAt}
use Rattle.md_mech.proofs.build.first_negative.Given as goal

abbrev pub invariant-loop-place : goal.invariant-loop-place
invariant-loop-place l = HoldsBelow l.place (IsChanceAt l.chances)
