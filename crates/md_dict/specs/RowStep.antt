-- A pivot of a table whose rows stand over denominators of their own.
use Rattle.std.specs.Prelude.{◌≡◌, ◌≢◌, ℕ, ◌+◌, ◌^◌, ◌<◌, ◌≤◌, ◌==◌, ◌&&◌, not, Bool, true, false, ℤ, pos, ◌-ℤ◌, ◌*ℤ◌, ◌<ℤ◌, List, length, replicate}
use Rattle.md_math.specs.Sizes.{AllWithin, IsWithin}
use Rattle.md_dict_rows.specs.declared.combination.LeastRow.{LeastRow}
use Rattle.md_dict.specs.Multiples.{IsNewRow}
use Rattle.std.specs.Ordering.{int_eq}
use Rattle.md_math.specs.Lists.{number_at}
use Rattle.md_dict.specs.Dictionary.{basic_value}
use Rattle.md_dict.specs.declared.step.Step.{Step}
use Rattle.md_dict.specs.declared.rows.Rows.{Rows}
use Rattle.md_dict.specs.declared.draft.Draft.{Draft}
use Rattle.md_dict.specs.declared.old_rows.OldRows.{OldRows}
use Rattle.md_dict_rows.specs.declared.combination.Combination.{Combination}
use Rattle.md_dict.specs.Step.{IsStep, IsTable, number_in}
use Rattle.md_dict.specs.Rows.{kept_of, own_den, own_number, AreRows}
use Rattle.md_dict_rows.specs.LeastRows.{IsRowSize}

-- the numbers of a pivot's rows over the denominator of all
abbrev pub kept_in : Step → Rows → List ℤ
kept_in step rows = kept_of (step.rows + 2) rows

-- the pivot is one of the table that the rows are over the denominator of all
pub record IsRowStep (step : Step) (rows : Rows) : Type 0 where
  pub width : rows.width ≡ step.columns + 1
  pub table : AreRows (step.rows + 2) step.den rows
  pub pivot : IsStep step (kept_in step rows)
  pub den_within : IsWithin step.limit step.den

-- the list has the numbers of a row
pub record IsOwnRow (rows : Rows) (i : ℕ) (own : List ℤ) : Type 0 where
  pub long : length own ≡ rows.width
  pub numbers : (s : ℕ) → s < rows.width → number_at own s ≡ own_number rows i s

-- the combination that a row other than the pivot row becomes, where what multiplies the two rows may be divided by a common factor
pub record IsCombinationOf (step : Step) (rows : Rows) (i : ℕ) (c : Combination) : Type 0 where
  pub other : i ≢ step.row
  pub place : c.place ≡ step.place
  pub common : ℤ
  pub positive : pos 0 <ℤ common
  pub multiplier : common *ℤ c.multiplier ≡ own_number rows step.row step.place
  pub factor : common *ℤ c.factor ≡ own_number rows i step.place
  pub den : c.den ≡ own_den rows i
  pub pivot_den : c.pivot_den ≡ own_den rows step.row
  pub leaving : c.leaving ≡ basic_value step.rows step.columns (own_den rows i) step.row step.leaving i

-- whether a pivot leaves a row as it is, by the rows' numbers at the place of the pivot: the pivot row is not taken from it, and it is not the face row, which may have another number in the leaving column
abbrev pub stays_in : Step → List ℤ → ℕ → Bool
stays_in step factors i = not (i == step.row) && not (i == step.rows) && int_eq (number_at factors i) (pos 0)

-- a row after the pivot, in least terms, with its denominator and size
pub record IsMadeRow (step : Step) (rows : Rows) (i : ℕ) (least : LeastRow) (f : ℕ → ℤ) : Type 0 where
  pub new : IsNewRow step (kept_in step rows) i least.den f
  pub size : IsRowSize (step.columns + 1) f least.size
  pub den_size : IsWithin (2 ^ 62) least.den

-- the divisor times new numbers of a row is what the old ones were combined to, so that the pivot times an old number is known; the place of the pivot is left out
pub record AreOldTimes (step : Step) (rows : Rows) (i : ℕ) (divisor : ℤ) (f : ℕ → ℤ) : Type 0 where
  pub at : (s : ℕ) → s < step.columns + 1 → s ≢ step.place → divisor *ℤ f s ≡ own_number rows step.row step.place *ℤ own_number rows i s -ℤ own_number rows i step.place *ℤ own_number rows step.row s

-- a row that a pivot changed can be turned back: its divisor is known by its old and its new denominator
pub record CanBeTurnedBack (step : Step) (rows : Rows) (i : ℕ) (den : ℤ) (f : ℕ → ℤ) : Type 0 where
  pub divisor : ℤ
  pub den_is : divisor *ℤ den ≡ own_number rows step.row step.place *ℤ own_den rows i
  pub numbers : AreOldTimes step rows i divisor f

-- the old numbers of a row other than the pivot row are known by the new ones: the row stayed, or can be turned back
pub record CanBeRestored (step : Step) (rows : Rows) (factors : List ℤ) (i : ℕ) (den : ℤ) (f : ℕ → ℤ) : Type 0 where
  pub positive : pos 0 <ℤ den
  pub size : IsWithin (2 ^ 62) den
  pub kept : stays_in step factors i ≡ true → (s : ℕ) → s < step.columns + 1 → f s ≡ own_number rows i s
  pub back : stays_in step factors i ≡ false → i ≢ step.row → CanBeTurnedBack step rows i den f

-- a row after the pivot, whose old numbers are known by the new ones
pub record IsDoneRow (step : Step) (rows : Rows) (factors numbers : List ℤ) (i : ℕ) (least : LeastRow) : Type 0 where
  pub made : IsMadeRow step rows i least (number_in step numbers i)
  pub restorable : CanBeRestored step rows factors i least.den (number_in step numbers i)

-- the first n rows are those after the pivot, with their new denominators and sizes
pub record AreDone (step : Step) (rows : Rows) (factors numbers dens sizes : List ℤ) (n : ℕ) : Type 0 where
  pub at : (i : ℕ) → i < n → IsDoneRow step rows factors numbers i (record { den = number_at dens i; size = number_at sizes i })

-- the numbers of the rows from n on are those before the pivot
pub record AreOldFrom (step : Step) (rows : Rows) (numbers : List ℤ) (n : ℕ) : Type 0 where
  pub at : (i s : ℕ) → n ≤ i → i < step.rows + 2 → s < step.columns + 1 → number_in step numbers i s ≡ own_number rows i s

-- the old numbers of the first n rows are known by the new ones, those of the others stand there
pub record AreRestorable (step : Step) (rows : Rows) (factors numbers dens : List ℤ) (n : ℕ) : Type 0 where
  pub written : (i : ℕ) → i < n → CanBeRestored step rows factors i (number_at dens i) (number_in step numbers i)
  pub rest : AreOldFrom step rows numbers n

-- what is read of the rows as they were before the pivot
pub record AreOldRows (step : Step) (rows : Rows) (old : OldRows) : Type 0 where
  pub step_is : IsRowStep step rows
  pub dens : old.dens.now ≡ rows.dens.items
  pub sizes : old.sizes.now ≡ rows.sizes.items
  pub pivot_row : IsOwnRow rows step.row old.pivot_row.now
  pub factors_length : length old.factors.now ≡ step.rows + 2
  pub factors : (i : ℕ) → i < step.rows + 2 → number_at old.factors.now i ≡ own_number rows i step.place
  pub zeros : old.zeros.now ≡ replicate (step.columns + 1) (pos 0)

-- the notes of a pivot on the rows as they were
pub record IsNoted (step : Step) (rows : Rows) (draft : Draft) : Type 0 where
  pub pivot_row : IsOwnRow rows step.row draft.pivot_row.items
  pub factors : (i : ℕ) → i < step.rows + 2 → number_at draft.factors.items i ≡ own_number rows i step.place

-- room for what a pivot notes of n rows of one length
pub record IsDraft (n width : ℕ) (draft : Draft) : Type 0 where
  pub own_length : length draft.own.items ≡ width
  pub pivot_row_length : length draft.pivot_row.items ≡ width
  pub zeros : draft.zeros.items ≡ replicate width (pos 0)
  pub factors_length : length draft.factors.items ≡ n
  pub dens_length : length draft.dens.items ≡ n
  pub shares_length : length draft.shares.items ≡ n
  pub sizes_length : length draft.sizes.items ≡ n
  pub dens_size : AllWithin (2 ^ 62) draft.dens.items
  pub shares_size : AllWithin (2 ^ 62) draft.shares.items
  pub sizes_size : AllWithin (2 ^ 62) draft.sizes.items

-- the same for lists that are written: the numbers, the denominators and the sizes
pub record AreParts (step : Step) (numbers dens sizes : List ℤ) : Type 0 where
  pub table : IsTable step numbers
  pub dens_length : length dens ≡ step.rows + 2
  pub sizes_length : length sizes ≡ step.rows + 2
  pub dens_size : AllWithin (2 ^ 62) dens
  pub sizes_size : AllWithin (2 ^ 62) sizes
