-- The rules by which a dictionary chooses the column that enters and the row that leaves, as a relation on its entries.
-- The table has m program rows, the face row m and the main row m + 1; n program and slack columns, the start columns n + k, and the right side n + m.
use Rattle.std.specs.Prelude.{◌≡◌, ◌⊎◌, ℕ, zero, suc, ◌+◌, ◌<◌, ℤ, pos, ◌-ℤ◌, ◌*ℤ◌, ◌≤ℤ◌, ◌<ℤ◌}
use Rattle.md_math.specs.LexOrder.{IsLexNonNegative}
use Rattle.md_dict.specs.Dictionary.{IsDictionary}
use Rattle.md_simplex.specs.declared.order.Order.{Order}
use Rattle.md_simplex.specs.declared.order.Order.TheVariants.{Forward, Backward}
use Rattle.md_simplex.specs.declared.step.Step.{Step}
use Rattle.md_simplex.specs.declared.step.Step.TheVariants as steps

-- ---- columns

-- which of two columns is tried first
abbrev pub ComesBefore : Order → ℕ → ℕ → Type 0
ComesBefore Forward a b = a < b
ComesBefore Backward a b = b < a

-- the first of the columns below n at which P holds
pub record IsFirstIn (order : Order) (n : ℕ) (P : ℕ → Type 0) (column : ℕ) : Type 0 where
  pub inside : column < n
  pub holds : P column
  pub others : (j : ℕ) → j < n → ComesBefore order j column → ¬ P j

-- the face row has a negative entry at the column
abbrev pub IsFaceColumn : ℕ → (ℕ → ℕ → ℤ) → ℕ → Type 0
IsFaceColumn m e column = e m column <ℤ pos 0

-- the face row has 0 at the column, and the main row a negative entry
abbrev pub IsMainColumn : ℕ → (ℕ → ℕ → ℤ) → ℕ → Type 0
IsMainColumn m e column = (e m column ≡ pos 0) × (e (m + 1) column <ℤ pos 0)

-- the face row is done: it has no negative entry at a column, nor at the right side
pub record IsFaceOver (m n : ℕ) (e : ℕ → ℕ → ℤ) : Type 0 where
  pub columns : (j : ℕ) → j < n → pos 0 ≤ℤ e m j
  pub right : pos 0 ≤ℤ e m (n + m)

-- the column that enters
abbrev pub IsEntering : Order → ℕ → ℕ → (ℕ → ℕ → ℤ) → ℕ → Type 0
IsEntering order m n e column = IsFirstIn order n (IsFaceColumn m e) column ⊎ (IsFaceOver m n e × IsFirstIn order n (IsMainColumn m e) column)

-- ---- rows

-- a row's list: its right side, and then its start entries in order
abbrev pub key : ℕ → ℕ → ℕ → ℕ
key m n zero = n + m
key m n (suc k) = n + k

-- how far row i's list exceeds that of row r, each divided by its entry in the column
abbrev pub gap : ℕ → ℕ → (ℕ → ℕ → ℤ) → ℕ → ℕ → ℕ → ℕ → ℤ
gap m n e column i r k = e r column *ℤ e i (key m n k) -ℤ e i column *ℤ e r (key m n k)

-- among the rows with a positive entry in the column, the list of row r over its entry is lexicographically least
pub record IsLeaving (m n : ℕ) (e : ℕ → ℕ → ℤ) (column r : ℕ) : Type 0 where
  pub inside : r < m
  pub positive : pos 0 <ℤ e r column
  pub least : (i : ℕ) → i < m → pos 0 <ℤ e i column → IsLexNonNegative (m + 1) (gap m n e column i r)

-- no program row has a positive entry in the column
pub record HasNoRow (m : ℕ) (e : ℕ → ℕ → ℤ) (column : ℕ) : Type 0 where
  pub none : (i : ℕ) → i < m → e i column ≤ℤ pos 0

-- ---- steps

-- the right side of the face row is negative
abbrev pub IsRightNegative : (m n : ℕ) → (ℕ → ℕ → ℤ) → Type 0
IsRightNegative m n e = e m (n + m) <ℤ pos 0

-- the face row has no negative entry at a column, and a negative right side
pub record IsInfeasible (m n : ℕ) (e : ℕ → ℕ → ℤ) : Type 0 where
  pub columns : (j : ℕ) → j < n → pos 0 ≤ℤ e m j
  pub right : IsRightNegative m n e

-- the face row is done, and no column enters for the main row
pub record IsOptimal (m n : ℕ) (e : ℕ → ℕ → ℤ) : Type 0 where
  pub face : IsFaceOver m n e
  pub main : (j : ℕ) → j < n → ¬ IsMainColumn m e j

-- what the rules say of a dictionary
abbrev pub IsNext : Order → ℕ → ℕ → (ℕ → ℕ → ℤ) → Step → Type 0
IsNext order m n e (steps.Pivot p) = IsEntering order m n e p.column × IsLeaving m n e p.column p.row
IsNext order m n e steps.Infeasible = IsInfeasible m n e
IsNext order m n e steps.Optimal = IsOptimal m n e
IsNext order m n e (steps.Unbounded column) = IsEntering order m n e column × HasNoRow m e column

-- the basis has a dictionary of which the rules say this
pub record HasNext (order : Order) (m n : ℕ) (t : ℕ → ℕ → ℤ) (basis : ℕ → ℕ) (step : Step) : Type 0 where
  pub den : ℤ
  pub table : ℕ → ℕ → ℤ
  pub dictionary : IsDictionary m n t basis den table
  pub next : IsNext order m n table step
