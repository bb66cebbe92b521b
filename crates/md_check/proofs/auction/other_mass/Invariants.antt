use Rattle.md_math.specs.FirstFailure.{HoldsBelow}
use Rattle.md_check.specs.AuctionVerdicts.{HasMass}
use Rattle.md_check.proofs.auction.other_mass.Given as goal

abbrev pub invariant-loop-kind : goal.invariant-loop-kind
invariant-loop-kind l = HoldsBelow l.kind (HasMass l.auction l.interim l.masses)
