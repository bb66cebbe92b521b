-- The dictionary of the first basis, and its building row by row.
use Rattle.std.specs.Prelude.{◌≡◌, ℕ, ◌+◌, ◌*◌, ◌^◌, ◌<◌, nat_lt, if◌then◌else◌, ℤ, pos, unsigned_abs, List, length}
use Rattle.md_lp.specs.declared.entry.Entry.{Entry}
use Rattle.md_math.specs.Lists.{list_to, number_at}
use Rattle.md_math.specs.Sizes.{IsWithin}
use Rattle.md_num.specs.Limits.{limit_of}
use Rattle.md_lp.specs.Program.{Program, row_count}
use Rattle.md_dict.specs.FirstTable.{column_count, first_entry, first_basis, first_number}
use Rattle.md_dict.specs.Condensed.{Condensed, basic_at, Holds}
use Rattle.md_dict.specs.Wide.{IsWideBasis}
use Rattle.md_dict.specs.declared.refusals.StartRefusal.{StartRefusal}
use Rattle.md_dict.specs.declared.refusals.StartRefusal.TheVariants.{TooWide, Memory}

-- the value is the dictionary of the first basis
pub record IsStart (p : Program) (width : ℕ) (d : Condensed) : Type 0 where
  pub bits : d.bits ≡ width
  pub holds : Holds p d
  pub basis : (i : ℕ) → i < row_count p → basic_at d i ≡ first_basis p i

-- the first basis is wide, and this is its first wide entry; memory may run out at any time
abbrev pub IsRefused : Program → ℕ → StartRefusal → Type 0
IsRefused p width (TooWide entry) = IsWideBasis (row_count p) (column_count p) (first_entry p) (first_basis p) (limit_of width) entry
IsRefused p width Memory = Unit {0}

-- each number of the list is that of the first dictionary at its row and place, and those of the program rows are at most 2 ^ 44 in size
pub record IsBuilt (p : Program) (kept : List ℤ) : Type 0 where
  pub numbers : (r s : ℕ) → s < column_count p + 1 → r * (column_count p + 1) + s < length kept → number_at kept (r * (column_count p + 1) + s) ≡ first_number p r s
  pub small : (k : ℕ) → k < length kept → k < row_count p * (column_count p + 1) → IsWithin (2 ^ 44) (number_at kept k)

-- the entry is the first number above the limit, by row, then by kept place; the right side is at the place after the last
pub record IsFirstWidePlace (rows columns limit : ℕ) (kept : List ℤ) (entry : Entry) : Type 0 where
  pub place : ℕ
  pub row_in : entry.row < rows + 2
  pub place_in : place < columns + 1
  pub column_is : entry.column ≡ (if nat_lt place columns then place else columns + rows)
  pub num_is : entry.num ≡ number_at kept (entry.row * (columns + 1) + place)
  pub den_is : entry.den ≡ pos 1
  pub wide : limit < unsigned_abs entry.num
  pub rows_before : (r s : ℕ) → r < entry.row → s < columns + 1 → IsWithin limit (number_at kept (r * (columns + 1) + s))
  pub places_before : (s : ℕ) → s < place → IsWithin limit (number_at kept (entry.row * (columns + 1) + s))

-- the first dictionary: each column stands at its own number
abbrev pub first_value : Program → ℕ → List ℤ → Condensed
first_value p width kept = record {
  rows = row_count p;
  columns = column_count p;
  bits = width;
  den = pos 1;
  order = list_to (column_count p + row_count p) (λ k. k);
  seat = list_to (column_count p + row_count p) (λ k. k);
  kept = kept;
}
