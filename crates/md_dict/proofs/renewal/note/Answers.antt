use Rattle.md_dict.proofs.Filling.{IsTable-own}
use Rattle.md_dict.proofs.renewal.note.Goals as goal

pub copy_row-requires-clause-table : goal.copy_row-requires-clause-table
copy_row-requires-clause-table c = rw c.as_slice.ensures.value (IsTable-own c.args.step.now c.args.rows.now c.requires.step)

pub copy_column-requires-clause-table : goal.copy_column-requires-clause-table
copy_column-requires-clause-table c = rw c.as_slice-2.ensures.value (IsTable-own c.args.step.now c.args.rows.now c.requires.step)
