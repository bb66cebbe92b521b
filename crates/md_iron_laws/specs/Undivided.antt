-- Multipliers of the rows of a reduced program before they are divided: by neighbouring values upwards and downwards, and by the
-- value that a cut begins with.
use Rattle.std.specs.Prelude.{ℕ, ◌+◌, ◌==◌, if◌then◌else◌, ℤ, pos, ◌*ℤ◌}
use Rattle.md_math.specs.Sums.{total_by}
use Rattle.md_setting.specs.Auction.{SymmetricAuction, value_count}
use Rattle.md_iron_values.specs.Pools.{Pools}
use Rattle.md_iron_laws.specs.Rows.{ProgramRow, truth_row, rational_row, cut_row, rows_of, row_left}

-- down at the lowest value is what its rational row is multiplied by
pub record Undivided : Type 0 where
  pub up : ℕ → ℤ
  pub down : ℕ → ℤ
  pub cut : ℕ → ℤ

abbrev pub times_of : Undivided → ProgramRow → ℤ
times_of u (truth_row kind other) = if other == kind + 1 then u.up other else (if kind == other + 1 then u.down kind else pos 0)
times_of u (rational_row kind) = if kind == 0 then u.down 0 else pos 0
times_of u (cut_row s) = u.cut s

-- the left sides of all rows, each times its multiplier
abbrev pub left_total : SymmetricAuction → Pools → Undivided → (ℕ → ℤ) → ℤ
left_total a pools u x = total_by (λ row. times_of u row *ℤ row_left a row x) (rows_of (value_count a) pools)
