-- Rows with an entry in the column that enters, of which the one whose list is least leaves.
use Rattle.std.specs.Prelude.{◌≡◌, ℕ, ◌<◌, Option, None, Some}
use Rattle.md_num.specs.Limits.{limit_of}
use Rattle.md_math.specs.Sizes.{IsWithin}
use Rattle.md_dict.specs.Condensed.{Condensed, entry_at}
use Rattle.md_simplex.specs.Best.{IsLeastBelow, HasNoRowBelow}
use Rattle.md_simplex.specs.declared.leaving.Rival.{Rival}

-- the entry is that of the row in the column
pub record IsRival (d : Condensed) (column : ℕ) (rival : Rival) : Type 0 where
  pub column_is : rival.column ≡ column
  pub row_in : rival.row < d.rows
  pub entry_is : rival.entry ≡ entry_at d rival.row column
  pub entry_size : IsWithin (limit_of d.bits) rival.entry

-- the best of the first n rows
abbrev pub IsBestRival : Condensed → ℕ → ℕ → Option Rival → Type 0
IsBestRival d column n None = HasNoRowBelow (entry_at d) column n
IsBestRival d column n (Some rival) = IsRival d column rival × IsLeastBelow d.rows d.columns (entry_at d) column n rival.row
