use Rattle.std.proofs.Common.{IsTrue, rules}
use Rattle.md_math.proofs.FirstFailures.{HoldsBelow-more}
use Rattle.md_list_check.specs.Orders.{IsInOrderBy}
use Rattle.md_list_check.proofs.order.first_unordered.Goals as goal

pub loop-place-preserved : goal.loop-place-preserved
loop-place-preserved c =
    let kept : IsTrue c.is_in_order.result = search rules in
    HoldsBelow-more (IsInOrderBy c.args.sums.now c.args.levels.now) c.loop-place.place c.loop-place.invariant (c.is_in_order.ensures.0 kept)
