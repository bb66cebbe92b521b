use Rattle.std.proofs.Common.{ℕ, ◌≡◌, ◌<◌, pos}
use Rattle.md_dict.specs.Condensed.{entry_at}
use Rattle.md_simplex.specs.Rules.{gap}
use Rattle.md_simplex.proofs.leaving.Rival.is_less.Given as goal

abbrev pub invariant-loop-place : goal.invariant-loop-place
invariant-loop-place l = (k : ℕ) → k < l.place → gap l.dict.rows l.dict.columns (entry_at l.dict) l.self.column l.self.row l.other.row k ≡ pos 0
