-- The kept numbers of a dictionary by rows, each over a denominator of its own.
use Rattle.std.specs.Prelude.{◌≡◌, ℕ, ◌+◌, ◌*◌, ◌<◌, ◌^◌, ◌⊎◌, ℤ, pos, ◌*ℤ◌, ◌<ℤ◌, List, length, unsigned_abs}
use Rattle.md_math.specs.Lists.{list_to, number_at, up_to}
use Rattle.md_math.specs.Sizes.{IsWithin, AllWithin}
use Rattle.md_math.specs.Divisors.{Divides, IsCommonDivisor}
use Rattle.md_dict_rows.specs.LeastRows.{IsLeastRow, IsRowSize}
use Rattle.md_dict.specs.declared.rows.Rows.{Rows}

-- a row's number at a place, over the row's denominator
abbrev pub own_number : Rows → ℕ → ℕ → ℤ
own_number rows i s = number_at rows.numbers.items (i * rows.width + s)

-- a row's denominator
abbrev pub own_den : Rows → ℕ → ℤ
own_den rows i = number_at rows.dens.items i

-- what a row's denominator is multiplied by to give that of all rows
abbrev pub share_of : Rows → ℕ → ℤ
share_of rows i = number_at rows.shares.items i

-- the size of a row's greatest number
abbrev pub size_of : Rows → ℕ → ℤ
size_of rows i = number_at rows.sizes.items i

-- the numbers of the first n rows, one after another, over the denominator of all rows
abbrev pub kept_of : ℕ → Rows → List ℤ
kept_of n rows = up_to n (λ i. list_to rows.width (λ s. share_of rows i *ℤ own_number rows i s))

-- n rows of one length whose numbers stand over a denominator
pub record AreRows (n : ℕ) (den : ℤ) (rows : Rows) : Type 0 where
  pub numbers_length : length rows.numbers.items ≡ n * rows.width
  pub dens_length : length rows.dens.items ≡ n
  pub shares_length : length rows.shares.items ≡ n
  pub sizes_length : length rows.sizes.items ≡ n
  pub numbers_size : AllWithin (2 ^ 62) rows.numbers.items
  pub dens_size : AllWithin (2 ^ 62) rows.dens.items
  pub shares_size : AllWithin (2 ^ 62) rows.shares.items
  pub sizes : (i : ℕ) → i < n → IsRowSize rows.width (own_number rows i) (size_of rows i)
  pub least : (i : ℕ) → i < n → IsLeastRow rows.width (own_den rows i) (own_number rows i)
  pub shared : (i : ℕ) → i < n → share_of rows i *ℤ own_den rows i ≡ den

-- the rows of a dictionary: the program rows, the face row and the main row, with the kept places and the right side
pub record HasRows (rows columns : ℕ) (den : ℤ) (own : Rows) : Type 0 where
  pub width : own.width ≡ columns + 1
  pub table : AreRows (rows + 2) den own
