use Rattle.std.proofs.Common.{arith}
use Rattle.std.proofs.lemmas.Grind.{common_steps}
use Rattle.md_list_award.proofs.Counts.{count-room, count-few}
use Rattle.md_list_award.proofs.amounts.ahead.Goals as goal

pub overflow_add-count : goal.overflow_add-count
overflow_add-count c =
    let room = count-room c.loop-number.count c.loop-number.number _ _ c.loop-number.invariant c.loop-number-test.true in
    grind (arith, common_steps, room)

pub returns-clause-few : goal.returns-clause-few
returns-clause-few c = count-few c.loop-number.count c.loop-number.number _ _ c.loop-number.invariant c.loop-number.auto.number-end
