use Rattle.md_math.specs.FirstFailure.{HoldsBelow}
use Rattle.md_expost.specs.Refusals.{IsKeptAt}
use Rattle.md_expost.proofs.build.first_over.Given as goal

abbrev pub invariant-loop-rank : goal.invariant-loop-rank
invariant-loop-rank l = HoldsBelow l.rank (IsKeptAt l.auction l.den l.rows)
