-- How the numbers after a pivot are written beside those before it, row by row.
use Rattle.std.specs.Prelude.{◌≡◌, ◌≢◌, ℕ, ◌+◌, ◌-◌, ◌*◌, ◌%◌, ◌<◌, ◌≤◌, ◌^◌, ℤ, pos, ◌*ℤ◌, ◌⊎◌, int_div, List, length, unsigned_abs}
use Rattle.md_math.specs.Lists.{number_at}
use Rattle.md_math.specs.Sizes.{AllWithin, IsWithin}
use Rattle.md_dict.specs.declared.step.Step.{Step}
use Rattle.md_dict.specs.declared.rows.Rows.{Rows}
use Rattle.md_dict.specs.Step.{number_in, AreRowsNarrow, IsStepDivisor, IsTable}
use Rattle.md_dict.specs.RowStep.{kept_in, AreDone, AreOldFrom, AreRestorable, IsDraft, IsMadeRow, IsNoted, IsRowStep}
use Rattle.md_dict.specs.Rows.{share_of}
use Rattle.md_dict.specs.declared.draft.Draft.{Draft}
use Rattle.md_dict.specs.declared.fill.Filled.{Filled}
use Rattle.md_dict.specs.Multiples.{IsLeastMultiple, IsNewRow}

-- the numbers of the other rows stay
pub record Leaves (step : Step) (i : ℕ) (old new : List ℤ) : Type 0 where
  pub others : (k s : ℕ) → k ≢ i → s < step.columns + 1 → number_in step new k s ≡ number_in step old k s

-- the denominator or a number is above the limit after the pivot
pub record IsWideFor (step : Step) (kept : List ℤ) : Type 0 where
  pub wide : (g : ℤ) → IsStepDivisor step kept (step.rows + 2) g → IsWithin step.limit (int_div (step.den *ℤ step.pivot) g) → AreRowsNarrow step kept g (step.rows + 2) → ⊥

-- the denominator of a row in least terms, however wide the row is
pub record IsDenOf (step : Step) (rows : Rows) (i : ℕ) (den : ℤ) : Type 0 where
  pub numbers : ℕ → ℤ
  pub new : IsNewRow step (kept_in step rows) i den numbers
  pub size : unsigned_abs den < 2 ^ 126

-- the least common multiple of the denominators of the first n rows in least terms, however wide these are
pub record IsRowsMultiple (step : Step) (rows : Rows) (n : ℕ) (den : ℤ) : Type 0 where
  pub dens : ℕ → ℤ
  pub table : ℕ → ℕ → ℤ
  pub new : (i : ℕ) → i < n → IsNewRow step (kept_in step rows) i (dens i) (table i)
  pub multiple : IsLeastMultiple n dens den
  pub size : unsigned_abs den < 2 ^ 126

-- the first n rows are those after the pivot, and this is the least common multiple of their denominators
pub record AreFilledBy (step : Step) (rows : Rows) (factors numbers dens sizes : List ℤ) (n : ℕ) (den : ℤ) : Type 0 where
  pub done : AreDone step rows factors numbers dens sizes n
  pub multiple : IsLeastMultiple n (number_at dens) den

-- all rows are those after the pivot, and this is the least common multiple of their denominators
pub record IsFilledBy (step : Step) (rows : Rows) (numbers dens sizes : List ℤ) (den : ℤ) : Type 0 where
  pub made : (i : ℕ) → i < step.rows + 2 → IsMadeRow step rows i (record { den = number_at dens i; size = number_at sizes i }) (number_in step numbers i)
  pub multiple : IsLeastMultiple (step.rows + 2) (number_at dens) den

-- a table whose rows are made, with their shares in the new denominator
pub record IsNewTable (step : Step) (new : Rows) (numbers dens sizes : List ℤ) (den : ℤ) : Type 0 where
  pub width : new.width ≡ step.columns + 1
  pub made : (i s : ℕ) → i < step.rows + 2 → s < step.columns + 1 → number_in step new.numbers.items i s ≡ number_in step numbers i s
  pub own : IsTable step new.numbers.items
  pub dens_are : new.dens.items ≡ dens
  pub sizes_are : new.sizes.items ≡ sizes
  pub dens_length : length dens ≡ step.rows + 2
  pub sizes_length : length sizes ≡ step.rows + 2
  pub shares_length : length new.shares.items ≡ step.rows + 2
  pub dens_size : AllWithin (2 ^ 62) dens
  pub shares_size : AllWithin (2 ^ 62) new.shares.items
  pub den_within : IsWithin step.limit den
  pub shared : (k : ℕ) → k < step.rows + 2 → (share_of new k *ℤ number_at dens k ≡ den) × IsWithin step.limit (share_of new k *ℤ number_at sizes k)

-- rows that are the old ones but for the list of their numbers, which has the same numbers
pub record AreSameRows (step : Step) (table new : Rows) : Type 0 where
  pub rest : new ≡ record table { numbers = new.numbers }
  pub numbers : AreOldFrom step table new.numbers.items 0
  pub own : IsTable step new.numbers.items

-- the rows were written in the places of those before, up to the first one that is too wide by itself, and the draft has what was noted
pub record AreUnderWay (step : Step) (before now : Rows) (draft : Draft) (filled : Filled) : Type 0 where
  pub step_is : IsRowStep step before
  pub noted : IsNoted step before draft
  pub room : IsDraft (step.rows + 2) (step.columns + 1) draft
  pub rest : now ≡ record before { numbers = now.numbers }
  pub table : IsTable step now.numbers.items
  pub restorable : AreRestorable step before draft.factors.items now.numbers.items draft.dens.items filled.written
  pub written : filled.written ≤ step.rows + 2
  pub multiple : IsRowsMultiple step before (step.rows + 2) filled.den
  pub all : filled.written ≡ step.rows + 2 → IsFilledBy step before now.numbers.items draft.dens.items draft.sizes.items filled.den
  pub wide : filled.written < step.rows + 2 → IsWideFor step (kept_in step before)

-- the new rows are too wide: one of them by itself, or all over their common denominator
abbrev pub AreTooWide : Step → Rows → Rows → Draft → Filled → Type 0
AreTooWide step before now draft filled =
    IsWideFor step (kept_in step before)
    ⊎ (IsFilledBy step before now.numbers.items draft.dens.items draft.sizes.items filled.den
    × ¬ (IsWithin step.limit filled.den × ((k : ℕ) → (share : ℤ) → k < step.rows + 2 → share *ℤ number_at draft.dens.items k ≡ filled.den → IsWithin step.limit (share *ℤ number_at draft.sizes.items k))))
