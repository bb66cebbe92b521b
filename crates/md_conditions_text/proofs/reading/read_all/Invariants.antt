use Rattle.std.proofs.Common.{◌≡◌, length}
use Rattle.md_conditions_text.proofs.LoopLaws.{AreFound}
use Rattle.md_conditions_text.proofs.reading.read_all.Given as goal

abbrev pub invariant-loop-conditions : goal.invariant-loop-conditions
invariant-loop-conditions l =
    record {
      same : l.ahead ≡ l.reader.left;
      found : AreFound l.setting l.fn.reader l.reader l.conditions.items l.rows;
    }

abbrev pub decreases-loop-conditions : goal.decreases-loop-conditions
decreases-loop-conditions l = length l.ahead
