use Rattle.std.proofs.Common.{ℕ, ◌<◌}
use Rattle.md_dict.specs.Condensed.{entry_at}
use Rattle.md_simplex.specs.Rules.{IsFaceColumn}
use Rattle.md_simplex.specs.Columns.{tried_at}
use Rattle.md_simplex.proofs.entering.face_column.Given as goal

abbrev pub invariant-loop-place : goal.invariant-loop-place
invariant-loop-place l = (k : ℕ) → k < l.place → ¬ IsFaceColumn l.dict.rows (entry_at l.dict) (tried_at l.order l.dict.columns k)
