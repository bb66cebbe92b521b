use Rattle.std.proofs.Common.{◌≡◌, ◌++◌}
use Rattle.md_lp.specs.Program.{cost_at}
use Rattle.md_cli_lp.specs.ProgramTexts.{pairs_of}
use Rattle.md_cli_lp.proofs.pairs.with_costs.Given as goal

abbrev pub invariant-loop-column : goal.invariant-loop-column
invariant-loop-column l = l.filled ≡ l.fn.fields ++ pairs_of l.column (cost_at l.lp)
