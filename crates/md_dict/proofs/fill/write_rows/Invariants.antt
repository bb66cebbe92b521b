use Rattle.std.proofs.Common.{◌≡◌, ◌+◌, ◌^◌, ◌<◌, length, unsigned_abs}
use Rattle.md_math.specs.Divisors.{Divides}
use Rattle.md_dict.specs.declared.rows.Rows.{Rows}
use Rattle.md_dict.specs.Fill.{AreFilledBy}
use Rattle.md_dict.specs.RowStep.{AreOldFrom, AreOldRows, AreParts}
use Rattle.md_dict.proofs.fill.write_rows.Given as goal

abbrev pub invariant-loop-row : goal.invariant-loop-row
invariant-loop-row l =
    (l.filled.written ≡ l.row)
    × ((rows : Rows) → AreOldRows l.step rows l.old → AreOldFrom l.step rows l.fn.numbers 0 → AreFilledBy l.step rows l.old.factors.now l.numbers l.dens l.sizes l.row l.filled.den × AreOldFrom l.step rows l.numbers l.row)
    × unsigned_abs l.filled.den < 2 ^ 126
    × Divides l.filled.last l.filled.den
    × AreParts l.step l.numbers l.dens l.sizes
    × length l.own ≡ l.step.columns + 1
