use Rattle.std.proofs.Common.{ℕ, ◌+◌, ◌<◌}
use Rattle.md_math.specs.Sizes.{IsWithin}
use Rattle.md_dict.specs.Step.{new_entry}
use Rattle.md_dict.specs.RowStep.{kept_in}
use Rattle.md_dict.proofs.wide.first_wide.Given as goal

abbrev pub invariant-loop-row : goal.invariant-loop-row
invariant-loop-row l = (r j : ℕ) → r < l.row → j < l.step.columns + l.step.rows + 1 → IsWithin l.step.limit (new_entry l.step (kept_in l.step l.rows) l.seat l.step.divisor r j)
