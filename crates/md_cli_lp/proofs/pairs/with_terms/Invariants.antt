use Rattle.std.proofs.Common.{◌≡◌, ◌++◌, take}
use Rattle.md_lp.specs.Program.{row_at, value_of}
use Rattle.md_cli_lp.specs.ProgramTexts.{pairs_of}
use Rattle.md_cli_lp.proofs.pairs.with_terms.Given as goal

abbrev pub invariant-loop-place : goal.invariant-loop-place
invariant-loop-place l = l.filled ≡ l.fn.fields ++ pairs_of l.lp.columns (value_of (take l.place (row_at l.lp l.row).terms))
