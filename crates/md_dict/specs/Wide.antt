-- The first entry of a dictionary that is too wide, by row, then by column.
use Rattle.std.specs.Prelude.{◌≡◌, ℕ, ◌+◌, ◌<◌, ℤ, unsigned_abs}
use Rattle.md_math.specs.Sizes.{IsWithin}
use Rattle.md_lp.specs.declared.entry.Entry.{Entry}
use Rattle.md_dict.specs.Dictionary.{IsDictionary}

-- the entry is the first one whose size is above the limit
pub record IsFirstWide (m n limit : ℕ) (den : ℤ) (e : ℕ → ℕ → ℤ) (entry : Entry) : Type 0 where
  pub row_in : entry.row < m + 2
  pub column_in : entry.column < n + m + 1
  pub num_is : entry.num ≡ e entry.row entry.column
  pub den_is : entry.den ≡ den
  pub wide : limit < unsigned_abs entry.num
  pub rows_before : (r j : ℕ) → r < entry.row → j < n + m + 1 → IsWithin limit (e r j)
  pub columns_before : (j : ℕ) → j < entry.column → IsWithin limit (e entry.row j)

-- each entry of a table is within the limit
pub record IsNarrow (m n limit : ℕ) (e : ℕ → ℕ → ℤ) : Type 0 where
  pub entries : (r j : ℕ) → r < m + 2 → j < n + m + 1 → IsWithin limit (e r j)

-- the basis has a dictionary, whose first wide entry is this one
pub record IsWideBasis (m n : ℕ) (t : ℕ → ℕ → ℤ) (basis : ℕ → ℕ) (limit : ℕ) (entry : Entry) : Type 0 where
  pub den : ℤ
  pub table : ℕ → ℕ → ℤ
  pub dictionary : IsDictionary m n t basis den table
  pub first : IsFirstWide m n limit den table entry
