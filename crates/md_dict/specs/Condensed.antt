-- A dictionary by the numbers that are not known from its basis: those of the columns that are not basic, and the right side.
use Rattle.std.specs.Prelude.{◌≡◌, ◌≢◌, unsigned_abs, ℕ, ◌+◌, ◌-◌, ◌*◌, ◌<◌, ◌≤◌, nat_lt, if◌then◌else◌, ℤ, pos, ◌<ℤ◌, List, length, slice_index}
use Rattle.md_math.specs.Lists.{number_at}
use Rattle.md_math.specs.Sizes.{IsWithin, AllWithin}
use Rattle.md_num.specs.Limits.{limit_of}
use Rattle.md_lp.specs.Program.{Program, row_count}
use Rattle.md_dict.specs.Dictionary.{basic_value, IsDictionary}
use Rattle.md_dict.specs.FirstTable.{column_count, first_entry}
use Rattle.md_dict.specs.Pivot.{with_column}

-- `rows` counts the program rows, `columns` the program and slack columns. `order` has the columns at the kept places, and then the basis; `seat` says where each column stands in it. `kept` has, row by row, the numbers at the kept places, and then the right side
pub record Condensed : Type 0 where
  pub rows : ℕ
  pub columns : ℕ
  pub bits : ℕ
  pub den : ℤ
  pub order : List ℕ
  pub seat : List ℕ
  pub kept : List ℤ

-- the column at a kept place
abbrev pub kept_column_at : Condensed → ℕ → ℕ
kept_column_at d place = slice_index d.order place

-- the basic column of a program row
abbrev pub basic_at : Condensed → ℕ → ℕ
basic_at d row = slice_index d.order (d.columns + row)

-- the kept number of a row at a place; the right side is at the place after the last
abbrev pub kept_number : Condensed → ℕ → ℕ → ℤ
kept_number d row place = number_at d.kept (row * (d.columns + 1) + place)

-- the column at a kept place; at the place after the last stands the right side
abbrev pub place_column : Condensed → ℕ → ℕ
place_column d place = if nat_lt place d.columns then kept_column_at d place else d.columns + d.rows

-- the entry at a row and a column of the whole dictionary
abbrev pub entry_at : Condensed → ℕ → ℕ → ℤ
entry_at d row column =
    if nat_lt column (d.columns + d.rows) then
    (if nat_lt (slice_index d.seat column) d.columns then kept_number d row (slice_index d.seat column)
    else basic_value d.rows d.columns d.den (slice_index d.seat column - d.columns) column row)
    else kept_number d row d.columns

-- two lists of the numbers below n are inverse to each other
pub record AreInverse (n : ℕ) (order seat : List ℕ) : Type 0 where
  pub order_length : length order ≡ n
  pub seat_length : length seat ≡ n
  pub order_in : (s : ℕ) → s < n → slice_index order s < n
  pub seat_in : (j : ℕ) → j < n → slice_index seat j < n
  pub seat_of_order : (s : ℕ) → s < n → slice_index seat (slice_index order s) ≡ s
  pub order_of_seat : (j : ℕ) → j < n → slice_index order (slice_index seat j) ≡ j

-- the sizes of a dictionary: each number is within the limit of its width
pub record IsShapedDictionary (d : Condensed) : Type 0 where
  pub row_limit : d.rows ≤ 8192
  pub column_limit : d.columns ≤ 73728
  pub least_bits : 4 ≤ d.bits
  pub most_bits : d.bits ≤ 62
  pub positive : pos 0 <ℤ d.den
  pub den_size : IsWithin (limit_of d.bits) d.den
  pub places : AreInverse (d.columns + d.rows) d.order d.seat
  pub kept_length : length d.kept ≡ (d.rows + 2) * (d.columns + 1)
  pub kept_size : AllWithin (limit_of d.bits) d.kept

-- the value is the dictionary of its basis for a program
pub record Holds (p : Program) (d : Condensed) : Type 0 where
  pub rows : d.rows ≡ row_count p
  pub columns : d.columns ≡ column_count p
  pub dictionary : IsDictionary d.rows d.columns (first_entry p) (basic_at d) d.den (entry_at d)

-- the sizes stay, the row has the column as its basic one, and each other row keeps its own
pub record TakesColumn (old new : Condensed) (row column : ℕ) : Type 0 where
  pub rows : new.rows ≡ old.rows
  pub columns : new.columns ≡ old.columns
  pub bits : new.bits ≡ old.bits
  pub basis : (i : ℕ) → i < old.rows → basic_at new i ≡ with_column (basic_at old) row column i

-- the kept places have each column that is not basic exactly once
pub record KeepsEachOnce (d : Condensed) : Type 0 where
  pub not_basic : (place i : ℕ) → place < d.columns → i < d.rows → kept_column_at d place ≢ basic_at d i
  pub once : (place other : ℕ) → place < d.columns → other < d.columns → kept_column_at d place ≡ kept_column_at d other → place ≡ other
  pub each : (j : ℕ) → j < d.columns + d.rows → ((i : ℕ) → i < d.rows → basic_at d i ≢ j) → (place : ℕ) × (place < d.columns) × (kept_column_at d place ≡ j)

-- the size of each entry is at most this one, and an entry has it
pub record IsGreatestSize (d : Condensed) (size : ℕ) : Type 0 where
  pub bound : (r j : ℕ) → r < d.rows + 2 → j < d.columns + d.rows + 1 → IsWithin size (entry_at d r j)
  pub row : ℕ
  pub column : ℕ
  pub row_in : row < d.rows + 2
  pub column_in : column < d.columns + d.rows + 1
  pub reached : unsigned_abs (entry_at d row column) ≡ size
