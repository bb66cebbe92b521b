-- The pivot of a dictionary at a row and a column.
use Rattle.std.specs.Prelude.{ℕ, ◌==◌, if◌then◌else◌, ℤ, ◌-ℤ◌, ◌*ℤ◌}

-- the basis with a column at a row
abbrev pub with_column : (ℕ → ℕ) → ℕ → ℕ → ℕ → ℕ
with_column basis row column i = if i == row then column else basis i

-- what row operations make of the entries where the column becomes the unit column of the row, over the denominator times the pivot
abbrev pub raw_entry : ℕ → ℕ → ℤ → (ℕ → ℕ → ℤ) → ℕ → ℕ → ℤ
raw_entry row column den e i j =
    if i == row then den *ℤ e row j else e row column *ℤ e i j -ℤ e i column *ℤ e row j
