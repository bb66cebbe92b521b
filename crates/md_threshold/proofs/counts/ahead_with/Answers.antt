use Rattle.std.proofs.Common.{arith}
use Rattle.md_threshold.proofs.CountLaws.{room-left}
use Rattle.md_threshold.proofs.counts.ahead_with.Goals as goal

pub overflow_add-count : goal.overflow_add-count
overflow_add-count c = omega (arith, room-left _ _ _ _ c.loop-place.invariant c.loop-place-test.true c.requires.kinds.few)
