-- The numbers that a pivot reads in rows over denominators of their own: they stand inside the rows, and are of 62 bits.
use Rattle.std.proofs.Common.{ℕ, ◌+◌, ◌*◌, ◌^◌, ◌<◌, length, ◌*ℤ◌, sym, subst, arith}
use Rattle.md_math.specs.Sizes.{IsWithin}
use Rattle.md_dict.specs.declared.step.Step.{Step}
use Rattle.md_dict.specs.declared.rows.Rows.{Rows}
use Rattle.md_dict.specs.Rows.{own_number, share_of}
use Rattle.md_dict.specs.RowStep.{IsRowStep}
use Rattle.md_dict.proofs.RowLaws.{kept_within}
use Rattle.md_dict.proofs.Writing.{place_inside}

-- a place of the step is one of the rows
pub row_place : (step : Step) (rows : Rows) (s : ℕ) → IsRowStep step rows → s < step.columns + 1 → s < rows.width
row_place step rows s h b = let w = h.width in omega (arith, w)

pub number_inside : (step : Step) (rows : Rows) (i s : ℕ) → IsRowStep step rows → i < step.rows + 2 → s < step.columns + 1 → i * rows.width + s < length rows.numbers.items
number_inside step rows i s h a b = subst (λ n. i * rows.width + s < n) (sym h.table.numbers_length) (place_inside rows.width i s (step.rows + 2) (row_place step rows s h b) a)

pub shared_size : (step : Step) (rows : Rows) (i s : ℕ) → IsRowStep step rows → i < step.rows + 2 → s < step.columns + 1 → IsWithin (2 ^ 62) (share_of rows i *ℤ own_number rows i s)
shared_size step rows i s h a b = kept_within (2 ^ 62) (step.rows + 2) rows h.pivot.table.kept_size i s a (row_place step rows s h b)
