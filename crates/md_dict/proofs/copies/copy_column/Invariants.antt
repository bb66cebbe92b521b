use Rattle.std.proofs.Common.{◌≡◌, ℕ, ◌+◌, ◌<◌, length}
use Rattle.md_math.specs.Lists.{number_at}
use Rattle.md_dict.specs.Step.{number_in}
use Rattle.md_dict.proofs.copies.copy_column.Given as goal

abbrev pub invariant-loop-row : goal.invariant-loop-row
invariant-loop-row l = (length l.factors ≡ l.step.rows + 2) × ((i : ℕ) → i < l.row → number_at l.factors i ≡ number_in l.step l.numbers i l.step.place)
