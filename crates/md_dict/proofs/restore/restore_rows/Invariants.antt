use Rattle.md_dict.specs.declared.rows.Rows.{Rows}
use Rattle.md_dict.specs.Step.{IsTable}
use Rattle.md_dict.specs.RowStep.{AreOldRows, AreRestorable}
use Rattle.md_dict.proofs.Restoring.{AreHalfRestored}
use Rattle.md_dict.proofs.restore.restore_rows.Given as goal

abbrev pub invariant-loop-row : goal.invariant-loop-row
invariant-loop-row l =
    ((rows : Rows) → AreOldRows l.step rows l.old → AreRestorable l.step rows l.old.factors.now l.fn.numbers l.dens l.written → AreHalfRestored l.step rows l.fn.numbers l.numbers l.row)
    × IsTable l.step l.numbers
