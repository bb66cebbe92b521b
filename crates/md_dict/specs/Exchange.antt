-- What a pivot changes in a condensed dictionary.
use Rattle.std.specs.Prelude.{◌≡◌, ℕ, ◌+◌, ◌^◌, ◌<◌, ℤ, pos, ◌*ℤ◌, ◌<ℤ◌, int_div, List, slice_index, slice_set, unsigned_abs}
use Rattle.md_num.specs.Limits.{limit_of}
use Rattle.md_dict.specs.declared.step.Step.{Step}
use Rattle.md_dict.specs.Condensed.{Condensed, basic_at, kept_number, IsShapedDictionary}
use Rattle.md_dict.specs.Step.{new_entry, IsStepDivisor, IsTable, IsWritten}
use Rattle.md_dict.specs.Wide.{IsNarrow}

-- a pivot at a row and at a column that is not basic
pub record IsExchange (d : Condensed) (row column : ℕ) : Type 0 where
  pub shape : IsShapedDictionary d
  pub row_in : row < d.rows
  pub column_in : column < d.columns
  pub place_in : slice_index d.seat column < d.columns
  pub positive : pos 0 <ℤ kept_number d row (slice_index d.seat column)

-- the step of a pivot at a row and a column that stands at a kept place
abbrev pub step_of : Condensed → ℕ → ℕ → ℤ → Step
step_of d row column divisor = record {
  rows = d.rows;
  columns = d.columns;
  row = row;
  place = slice_index d.seat column;
  entering = column;
  leaving = basic_at d row;
  pivot = kept_number d row (slice_index d.seat column);
  den = d.den;
  limit = limit_of d.bits;
  divisor = divisor;
}

-- the entering and the leaving column change places, and the kept numbers and the denominator are new
abbrev pub exchanged : Condensed → ℕ → ℕ → ℤ → List ℤ → Condensed
exchanged d row column divisor kept = record {
  rows = d.rows;
  columns = d.columns;
  bits = d.bits;
  den = int_div (d.den *ℤ kept_number d row (slice_index d.seat column)) divisor;
  order = slice_set (slice_set d.order (slice_index d.seat column) (basic_at d row)) (d.columns + row) column;
  seat = slice_set (slice_set d.seat column (d.columns + row)) (basic_at d row) (slice_index d.seat column);
  kept = kept;
}

-- the numbers are those after the pivot, none of which is wide
pub record AreWritten (d : Condensed) (row column : ℕ) (g : ℤ) (kept : List ℤ) : Type 0 where
  pub exchange : IsExchange d row column
  pub divisor : IsStepDivisor (step_of d row column g) d.kept (d.rows + 2) g
  pub narrow : IsNarrow d.rows d.columns (limit_of d.bits) (new_entry (step_of d row column g) d.kept d.seat g)
  pub written : IsWritten (step_of d row column g) g d.kept kept
  pub table : IsTable (step_of d row column g) kept

-- the step with its divisor, by which an entry or the denominator is above the limit
pub record IsWideStep (d : Condensed) (row column : ℕ) (divided : Step) : Type 0 where
  pub step : divided ≡ step_of d row column divided.divisor
  pub size : unsigned_abs divided.divisor < 2 ^ 126
  pub divisor : IsStepDivisor divided d.kept (d.rows + 2) divided.divisor
  pub wide : ¬ IsNarrow d.rows d.columns (limit_of d.bits) (new_entry divided d.kept d.seat divided.divisor)
