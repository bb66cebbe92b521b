-- The numbers that a pivot makes, before and after they are divided.
use Rattle.std.specs.Prelude.{◌≡◌, ◌≢◌, ℕ, ◌+◌, ◌-◌, ◌*◌, ◌<◌, ◌≤◌, ◌^◌, ◌==◌, nat_lt, if◌then◌else◌, ℤ, pos, ◌-ℤ◌, ◌*ℤ◌, ◌<ℤ◌, int_div, List, length, slice_index}
use Rattle.md_math.specs.Lists.{number_at}
use Rattle.md_math.specs.Sizes.{IsWithin, AllWithin}
use Rattle.md_math.specs.Divisors.{Divides}
use Rattle.md_dict.specs.Dictionary.{basic_value}
use Rattle.md_dict.specs.declared.step.Step.{Step}

-- the number at a row and a place
abbrev pub number_in : Step → List ℤ → ℕ → ℕ → ℤ
number_in step kept i s = number_at kept (i * (step.columns + 1) + s)

-- the number before the pivot; the leaving column takes the place of the entering one
abbrev pub old_number : Step → List ℤ → ℕ → ℕ → ℤ
old_number step kept i s =
    if s == step.place then basic_value step.rows step.columns step.den step.row step.leaving i else number_in step kept i s

-- what multiplies a row: the denominator in the pivot row, else the pivot
abbrev pub multiplier_of : Step → ℕ → ℤ
multiplier_of step i = if i == step.row then step.den else step.pivot

-- how often the pivot row is taken from a row
abbrev pub factor_of : Step → List ℤ → ℕ → ℤ
factor_of step kept i = if i == step.row then pos 0 else number_in step kept i step.place

-- the number at a kept place after the pivot, over the denominator times the pivot
abbrev pub raw_number : Step → List ℤ → ℕ → ℕ → ℤ
raw_number step kept i s =
    multiplier_of step i *ℤ old_number step kept i s -ℤ factor_of step kept i *ℤ old_number step kept step.row s

-- where a column stands after the pivot
abbrev pub seat_after : Step → List ℕ → ℕ → ℕ
seat_after step seat j =
    if j == step.entering then step.columns + step.row else (if j == step.leaving then step.place else slice_index seat j)

-- the number at a column after the pivot, over the denominator times the pivot
abbrev pub raw_at : Step → List ℤ → List ℕ → ℕ → ℕ → ℤ
raw_at step kept seat i j =
    if nat_lt j (step.columns + step.rows) then
    (if nat_lt (seat_after step seat j) step.columns then raw_number step kept i (seat_after step seat j)
    else basic_value step.rows step.columns (step.den *ℤ step.pivot) (seat_after step seat j - step.columns) j i)
    else raw_number step kept i step.columns

-- the entry at a column after the pivot, where all is divided
abbrev pub new_entry : Step → List ℤ → List ℕ → ℤ → ℕ → ℕ → ℤ
new_entry step kept seat divisor i j = int_div (raw_at step kept seat i j) divisor

-- the numbers stand in rows of one length, and are within the limit, which is at most 2 ^ 62
pub record IsTable (step : Step) (kept : List ℤ) : Type 0 where
  pub row_limit : step.rows ≤ 8192
  pub column_limit : step.columns ≤ 73728
  pub row_in : step.row < step.rows
  pub place_in : step.place < step.columns
  pub limit_size : step.limit ≤ 2 ^ 62
  pub kept_length : length kept ≡ (step.rows + 2) * (step.columns + 1)
  pub kept_size : AllWithin (2 ^ 62) kept
  pub kept_limit : AllWithin step.limit kept
  pub den_size : IsWithin (2 ^ 62) step.den
  pub pivot_size : IsWithin (2 ^ 62) step.pivot
  pub den_positive : pos 0 <ℤ step.den
  pub pivot_positive : pos 0 <ℤ step.pivot

-- the pivot stands in the table, and the columns that change places are two
pub record IsStep (step : Step) (kept : List ℤ) : Type 0 where
  pub table : IsTable step kept
  pub entering_in : step.entering < step.columns
  pub leaving_in : step.leaving < step.columns + step.rows
  pub apart : step.entering ≢ step.leaving
  pub pivot_is : step.pivot ≡ number_in step kept step.row step.place

-- each column has a seat
pub record IsSeated (step : Step) (seat : List ℕ) : Type 0 where
  pub seat_length : length seat ≡ step.columns + step.rows
  pub seat_in : (j : ℕ) → j < step.columns + step.rows → slice_index seat j < step.columns + step.rows

-- d divides the raw numbers of a row at the first places
pub record DividesPlaces (step : Step) (kept : List ℤ) (i n : ℕ) (d : ℤ) : Type 0 where
  pub at : (s : ℕ) → s < n → Divides d (raw_number step kept i s)

-- d divides the raw numbers of the first rows
pub record DividesRows (step : Step) (kept : List ℤ) (n : ℕ) (d : ℤ) : Type 0 where
  pub at : (i s : ℕ) → i < n → s < step.columns + 1 → Divides d (raw_number step kept i s)

-- the greatest number that divides the denominator times the pivot, and the raw numbers of the first rows
pub record IsStepDivisor (step : Step) (kept : List ℤ) (n : ℕ) (d : ℤ) : Type 0 where
  pub positive : pos 0 <ℤ d
  pub of_den : Divides d (step.den *ℤ step.pivot)
  pub of_rows : DividesRows step kept n d
  pub greatest : (x : ℤ) → Divides x (step.den *ℤ step.pivot) → DividesRows step kept n x → Divides x d

-- the divisor divides the raw numbers of a row, and the quotients are within the limit
pub record IsReady (step : Step) (kept : List ℤ) (divisor : ℤ) (i : ℕ) : Type 0 where
  pub divides : DividesPlaces step kept i (step.columns + 1) divisor
  pub narrow : (s : ℕ) → s < step.columns + 1 → IsWithin step.limit (int_div (raw_number step kept i s) divisor)

-- the row is another than the pivot row, which is not taken from it
pub record IsApart (step : Step) (kept : List ℤ) (i : ℕ) : Type 0 where
  pub other : i ≢ step.row
  pub zero : number_in step kept i step.place ≡ pos 0

-- the new numbers of the first rows are within the limit
pub record AreRowsNarrow (step : Step) (kept : List ℤ) (divisor : ℤ) (n : ℕ) : Type 0 where
  pub at : (i s : ℕ) → i < n → s < step.columns + 1 → IsWithin step.limit (int_div (raw_number step kept i s) divisor)

-- the divisor times the new numbers are the raw numbers
pub record IsWritten (step : Step) (divisor : ℤ) (old new : List ℤ) : Type 0 where
  pub length_is : length new ≡ length old
  pub numbers : (i s : ℕ) → i < step.rows + 2 → s < step.columns + 1 → divisor *ℤ number_in step new i s ≡ raw_number step old i s
