use Rattle.md_math.specs.FirstFailure.{HoldsBelow}
use Rattle.md_cut_check.specs.CutClaims.{HasMass}
use Rattle.md_asym.specs.SaleVerdicts.{sale_claim}
use Rattle.md_asym.proofs.checking.other_mass.Given as goal

abbrev pub invariant-loop-pair : goal.invariant-loop-pair
invariant-loop-pair l = HoldsBelow l.pair (HasMass (sale_claim l.setting l.answer))
