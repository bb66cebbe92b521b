use Rattle.std.proofs.Common.{◌≡◌, ◌-◌, []}
use Rattle.md_find_basis.specs.Basis.{listed_as, with_more}
use Rattle.md_find_basis.proofs.basis.read_records.Given as goal

abbrev pub invariant-loop-row : goal.invariant-loop-row
invariant-loop-row l =
    with_more l.columns l.rows l.rows (listed_as [] []) l.fn.reader ≡ with_more l.columns l.rows (l.rows - l.row) (listed_as l.basics.items l.slacks.items) l.reader
