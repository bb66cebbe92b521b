use Rattle.std.proofs.Common.{take}
use Rattle.md_mech.specs.Rows.{conditions_of}
use Rattle.md_rows.specs.Built.{Extends}
use Rattle.md_rows.proofs.program.push_rows.Given as goal

abbrev pub invariant-loop-row : goal.invariant-loop-row
invariant-loop-row l = Extends l.setting (take l.row (conditions_of l.setting)) l.fn.lp l.lp
