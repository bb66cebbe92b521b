use Rattle.std.proofs.Common.{arith, inl, inr}
use Rattle.md_counts.proofs.WaysLaws.{IsNext, sum-small, HasWays-more}
use Rattle.md_counts.proofs.ways.Ways.new.Goals as goal
use Rattle.md_counts.proofs.ways.Ways.new.Goals.{then-place-eq0, else-place-eq0}

pub overflow_add-table : goal.overflow_add-table
overflow_add-table c = omega (arith, sum-small c.loop-place.table c.loop-place.place c.loop-place.invariant (omega arith) (omega arith))

pub loop-place-preserved : goal.loop-place-preserved
loop-place-preserved c =
    let next : IsNext c.loop-place.table c.loop-place.place c.if-place-eq0.table =
    elim c.if-place-eq0.branch [
      | then-place-eq0 w ↦ inl (w.if-place-eq0.true, w.table-is)
      | else-place-eq0 w ↦ inr (w.if-place-eq0.false, w.table-is)
    ] in
    HasWays-more c.loop-place.table c.loop-place.place _ (omega arith) (omega arith) c.loop-place.invariant next
