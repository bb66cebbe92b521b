use Rattle.std.proofs.Common.{ℕ, ◌<◌}
use Rattle.md_dict.specs.Condensed.{entry_at}
use Rattle.md_simplex.specs.Rules.{IsMainColumn}
use Rattle.md_simplex.specs.Columns.{tried_at}
use Rattle.md_simplex.proofs.entering.main_column.Given as goal

abbrev pub invariant-loop-place : goal.invariant-loop-place
invariant-loop-place l = (k : ℕ) → k < l.place → ¬ IsMainColumn l.dict.rows (entry_at l.dict) (tried_at l.order l.dict.columns k)
