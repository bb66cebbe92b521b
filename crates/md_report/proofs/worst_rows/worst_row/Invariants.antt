use Rattle.md_report.specs.Worst.{IsWorstIn}
use Rattle.md_report.proofs.worst_rows.worst_row.Given as goal

abbrev pub invariant-loop-row : goal.invariant-loop-row
invariant-loop-row l = IsWorstIn l.setting l.mechanism l.start l.row l.worst
