use Rattle.md_math.specs.FirstFailure.{HoldsBelow}
use Rattle.md_list_check.specs.Orders.{IsInOrderBy}
use Rattle.md_list_check.proofs.order.first_unordered.Given as goal

abbrev pub invariant-loop-place : goal.invariant-loop-place
invariant-loop-place l = HoldsBelow l.place (IsInOrderBy l.sums l.levels)
