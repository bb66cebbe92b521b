use Rattle.md_math.specs.Sizes.{IsWithin}
use Rattle.md_math.specs.FirstFailure.{HoldsBelow}
use Rattle.md_dict.specs.Step.{new_entry}
use Rattle.md_dict.specs.RowStep.{kept_in}
use Rattle.md_dict.proofs.wide.wide_in_row.Given as goal

abbrev pub invariant-loop-column : goal.invariant-loop-column
invariant-loop-column l = HoldsBelow l.column (λ j. IsWithin l.step.limit (new_entry l.step (kept_in l.step l.rows) l.seat l.step.divisor l.row j))
