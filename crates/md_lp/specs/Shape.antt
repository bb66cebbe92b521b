-- The limits that each program keeps: how many columns and rows it has, and how large its numbers are.
use Rattle.std.specs.Prelude.{ℕ, ℤ, pos, ◌^◌, ◌<◌, ◌≤◌, ◌<ℤ◌, ◌≡◌, List, ◌∷◌, length, map, slice_index_or, All}
use Rattle.md_lp.specs.declared.term.Term.{Term}
use Rattle.md_math.specs.Sizes.{IsWithin, AllWithin}
use Rattle.md_lp.specs.Program.{Program, Row}

-- the numbers of a row: its right side, and then what its terms have
abbrev pub numbers_of : Row → List ℤ
numbers_of row = row.right ∷ map (λ term. term.value) row.terms

-- the column of the term at a place
abbrev pub column_in : List Term → ℕ → ℕ
column_in terms k = (slice_index_or terms k (record { column = 0; value = pos 0 })).column

-- the columns of the terms strictly ascend
pub record IsAscending (terms : List Term) : Type 0 where
  pub ascending : (i k : ℕ) → i < k → k < length terms → column_in terms i < column_in terms k

-- the terms stand at columns of the program, in strictly ascending order
pub record HasPlaces (columns : ℕ) (terms : List Term) : Type 0 where
  pub below : (k : ℕ) → k < length terms → column_in terms k < columns
  pub order : IsAscending terms

pub record IsShapedRow (columns : ℕ) (row : Row) : Type 0 where
  pub places : HasPlaces columns row.terms
  pub sizes : AllWithin (2 ^ 44) (numbers_of row)

pub record IsShaped (p : Program) : Type 0 where
  pub columns : p.columns ≤ 65536
  pub costs : length p.cost ≡ p.columns
  pub cost_sizes : AllWithin (2 ^ 44) p.cost
  pub positive : pos 0 <ℤ p.factor
  pub factor_size : IsWithin (2 ^ 44) p.factor
  pub count : length p.rows ≤ 8192
  pub rows : All (IsShapedRow p.columns) p.rows
