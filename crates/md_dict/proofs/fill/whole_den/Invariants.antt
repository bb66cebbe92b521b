use Rattle.std.proofs.Common.{◌≡◌, ◌≤◌}
use Rattle.md_math.specs.Divisors.{Divides}
use Rattle.md_dict.specs.declared.rows.Rows.{Rows}
use Rattle.md_dict.specs.Fill.{IsRowsMultiple}
use Rattle.md_dict.specs.RowStep.{AreOldFrom, AreOldRows}
use Rattle.md_dict.proofs.fill.whole_den.Given as goal

abbrev pub invariant-loop-row : goal.invariant-loop-row
invariant-loop-row l =
    (l.first.written ≤ l.row)
    × ((rows : Rows) → AreOldRows l.step rows l.old → AreOldFrom l.step rows l.numbers l.first.written → IsRowsMultiple l.step rows l.first.written l.first.den → IsRowsMultiple l.step rows l.row l.filled.den)
    × Divides l.filled.last l.filled.den
    × (l.row ≡ l.first.written → l.filled.den ≡ l.first.den)
