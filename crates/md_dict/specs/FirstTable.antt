-- The first table of a program: its columns, one slack column for each at-most row, one start column for each row, and the right side.
use Rattle.std.specs.Prelude.{ℕ, zero, suc, ◌+◌, Bool, true, false, ◌&&◌, ◌==◌, nat_lt, int_lt, if◌then◌else◌, ℤ, pos, negsuc, ◌*ℤ◌, neg_ℤ}
use Rattle.md_math.specs.Sums.{sum_to}
use Rattle.md_lp.specs.declared.row_kind.RowKind.{RowKind}
use Rattle.md_lp.specs.declared.row_kind.RowKind.TheVariants.{AtMost, Exact}
use Rattle.md_lp.specs.Program.{Program, row_count, kind_at, right_at, coefficient_at, cost_at}

abbrev pub is_at_most : RowKind → Bool
is_at_most AtMost = true
is_at_most Exact = false

-- how many of the first rows are at-most rows: each has a slack column, in row order
abbrev pub slacks_before : Program → ℕ → ℕ
slacks_before p zero = 0
slacks_before p (suc k) = slacks_before p k + (if is_at_most (kind_at p k) then 1 else 0)

-- how many program and slack columns there are
abbrev pub column_count : Program → ℕ
column_count p = p.columns + slacks_before p (row_count p)

-- a row whose right side is negative is multiplied by -1
abbrev pub sign_at : Program → ℕ → ℤ
sign_at p k = if int_lt (right_at p k) (pos 0) then negsuc 0 else pos 1

-- a program row: its coefficients, its slack and its right side, times the sign, and 1 in its own start column
abbrev pub row_entry : Program → ℕ → ℕ → ℤ
row_entry p k j =
    if nat_lt j p.columns then sign_at p k *ℤ coefficient_at p k j
    else (if nat_lt j (column_count p) then (if is_at_most (kind_at p k) && (j == p.columns + slacks_before p k) then sign_at p k else pos 0)
    else (if nat_lt j (column_count p + row_count p) then (if j == column_count p + k then pos 1 else pos 0)
    else sign_at p k *ℤ right_at p k))

-- the main row: minus the cost
abbrev pub main_entry : Program → ℕ → ℤ
main_entry p j = if nat_lt j p.columns then neg_ℤ (cost_at p j) else pos 0

-- the program rows, the face row, which is minus their sum, and the main row
abbrev pub first_entry : Program → ℕ → ℕ → ℤ
first_entry p r j =
    if nat_lt r (row_count p) then row_entry p r j
    else (if r == row_count p then neg_ℤ (sum_to (row_count p) (λ k. row_entry p k j)) else main_entry p j)

-- the first basis has the start columns, in row order
abbrev pub first_basis : Program → ℕ → ℕ
first_basis p i = column_count p + i

-- the column of a kept place of the first dictionary; the right side is at the place after the last
abbrev pub first_column : Program → ℕ → ℕ
first_column p s = if nat_lt s (column_count p) then s else column_count p + row_count p

-- the number at a kept place of the first dictionary
abbrev pub first_number : Program → ℕ → ℕ → ℤ
first_number p r s = first_entry p r (first_column p s)
