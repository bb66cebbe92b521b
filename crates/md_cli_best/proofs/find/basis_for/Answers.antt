use Rattle.md_cli_best.proofs.find.basis_for.Goals as goal

pub returns : goal.returns
returns c = rw (c.columns.ensures.value, c.in_ok-lp.ensures.program.columns, c.rows.ensures.count) at c.read_basis.ensures
