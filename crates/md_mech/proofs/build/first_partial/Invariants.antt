use Rattle.md_math.specs.FirstFailure.{HoldsBelow}
use Rattle.md_setting.specs.Meaning.{outcome_count}
use Rattle.md_mech.specs.Refusals.{IsWholeAt}
use Rattle.md_mech.proofs.build.first_partial.Given as goal

abbrev pub invariant-loop-rank : goal.invariant-loop-rank
invariant-loop-rank l = HoldsBelow l.rank (IsWholeAt l.den l.chances (outcome_count l.setting))
