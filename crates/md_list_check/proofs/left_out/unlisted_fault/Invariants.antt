use Rattle.md_math.specs.FirstFailure.{HoldsBelow}
use Rattle.md_list.specs.Lists.{ranks_of}
use Rattle.md_list_check.specs.Verdicts.{IsLeftOut}
use Rattle.md_list_check.proofs.left_out.unlisted_fault.Given as goal

abbrev pub invariant-loop-group : goal.invariant-loop-group
invariant-loop-group l = HoldsBelow l.group (IsLeftOut l.auction (ranks_of l.ranks))
