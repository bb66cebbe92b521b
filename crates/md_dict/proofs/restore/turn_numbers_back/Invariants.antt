use Rattle.std.proofs.Common.{◌≡◌, ◌+◌, length}
use Rattle.md_math.specs.Lists.{number_at}
use Rattle.md_math.specs.Sizes.{AllWithin}
use Rattle.md_dict.specs.declared.rows.Rows.{Rows}
use Rattle.md_dict.specs.RowStep.{AreOldRows, AreOldTimes}
use Rattle.md_dict.proofs.Restoring.{IsHalfTurned}
use Rattle.md_dict.proofs.restore.turn_numbers_back.Given as goal

abbrev pub invariant-loop-place : goal.invariant-loop-place
invariant-loop-place l =
    ((rows : Rows) → AreOldRows l.step rows l.old → AreOldTimes l.step rows l.row l.divisor (number_at l.fn.own) → IsHalfTurned rows l.row l.fn.own l.own l.place)
    × (length l.own ≡ l.step.columns + 1)
    × AllWithin l.step.limit l.own
