use Rattle.std.proofs.Common.{arith}
use Rattle.md_threshold.proofs.CountLaws.{room-left}
use Rattle.md_cli_sell.proofs.threshold_text.pool_number.Goals as goal

-- an auction has at most 12 values
pub overflow_add-number : goal.overflow_add-number
overflow_add-number c = omega (arith, room-left _ _ _ _ c.loop-kind.invariant c.loop-kind-test.true (omega (arith, c.kinds-kind-end.ensures.count, c.kinds-kind-end.ensures.shaped.few_values)))
