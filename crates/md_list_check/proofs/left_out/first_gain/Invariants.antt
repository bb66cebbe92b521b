use Rattle.md_math.specs.FirstFailure.{HoldsBelow}
use Rattle.md_list_check.specs.LeftOut.{BringsNothingTo}
use Rattle.md_list_gains.specs.Places.{gain_to, benefit_to}
use Rattle.md_list_check.proofs.left_out.first_gain.Given as goal

abbrev pub invariant-loop-value : goal.invariant-loop-value
invariant-loop-value l = HoldsBelow l.value (BringsNothingTo (gain_to l.places) (benefit_to l.places) l.stop)
