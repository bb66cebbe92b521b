use Rattle.std.proofs.Common.{arith}
use Rattle.md_threshold.proofs.CountLaws.{room-left, few-counted}
use Rattle.md_threshold.proofs.counts.beside_with.Goals as goal

pub overflow_add-count : goal.overflow_add-count
overflow_add-count c = omega (arith, room-left _ _ _ _ c.loop-place.invariant c.loop-place-test.true c.requires.kinds.few)

pub returns-clause-few : goal.returns-clause-few
returns-clause-few c = few-counted _ _ _ _ c.loop-place.invariant c.loop-place.auto.place-end c.requires.kinds.few
