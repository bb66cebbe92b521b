use Rattle.md_math.specs.FirstFailure.{HoldsBelow}
use Rattle.md_mech.specs.Refusals.{IsPaymentAt}
use Rattle.md_mech.proofs.build.first_bad_payment.Given as goal

abbrev pub invariant-loop-place : goal.invariant-loop-place
invariant-loop-place l = HoldsBelow l.place (IsPaymentAt l.setting l.pays)
