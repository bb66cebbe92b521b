use Rattle.std.proofs.Common.{◌≡◌, ◌+◌, ◌≤◌}
use Rattle.md_dict.specs.FirstTable.{slacks_before}
use Rattle.md_dict.proofs.first.first_columns.Given as goal

abbrev pub invariant-loop-row : goal.invariant-loop-row
invariant-loop-row l = (l.columns ≡ l.lp.columns + slacks_before l.lp l.row) × (l.columns ≤ 65536 + l.row)
