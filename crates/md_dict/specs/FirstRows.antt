-- A row of the first dictionary that is being built.
use Rattle.std.specs.Prelude.{◌≡◌, ℕ, ◌+◌, ◌*◌, ◌<◌, ◌≤◌, ℤ, pos, List, length}
use Rattle.md_lp.specs.Program.{Program}
use Rattle.md_dict.specs.FirstTable.{column_count, first_number}
use Rattle.md_dict.specs.Start.{IsBuilt}

-- the rows before it are built, and of the row itself what stands before a place, but for zeros at the end
pub record IsBuiltBefore (p : Program) (row place : ℕ) (kept : List ℤ) : Type 0 where
  pub built : IsBuilt p kept
  pub from : row * (column_count p + 1) ≤ length kept
  pub to : length kept ≤ row * (column_count p + 1) + place
  pub zeros : (s : ℕ) → length kept ≤ row * (column_count p + 1) + s → s < place → first_number p row s ≡ pos 0
