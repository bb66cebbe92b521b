use Rattle.md_math.specs.FirstFailure.{HoldsBelow}
use Rattle.md_list.specs.Lists.{ranks_of}
use Rattle.md_list_check.specs.Verdicts.{IsPoolAt}
use Rattle.md_list_check.proofs.pools.inside_fault.Given as goal

abbrev pub invariant-loop-place : goal.invariant-loop-place
invariant-loop-place l = HoldsBelow l.place (IsPoolAt l.auction (ranks_of l.ranks) l.levels)
