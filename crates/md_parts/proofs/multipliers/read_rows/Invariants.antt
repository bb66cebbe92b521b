use Rattle.std.proofs.Common.{length}
use Rattle.md_parts.proofs.RowsFound.{IsFound}
use Rattle.md_parts.proofs.multipliers.read_rows.Given as goal

abbrev pub invariant-loop-alloc : goal.invariant-loop-alloc
invariant-loop-alloc l = IsFound l.rows l.count l.fn.reader l.reader l.face l.main

abbrev pub decreases-loop-alloc : goal.decreases-loop-alloc
decreases-loop-alloc l = length l.reader.left
