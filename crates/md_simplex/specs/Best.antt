-- The row that leaves among the first rows of a dictionary.
use Rattle.std.specs.Prelude.{ℕ, ◌+◌, ◌<◌, ℤ, pos, ◌≤ℤ◌, ◌<ℤ◌, Option, None, Some}
use Rattle.md_math.specs.LexOrder.{IsLexNonNegative}
use Rattle.md_simplex.specs.Rules.{gap}

-- among the first n of m rows with a positive entry in the column, the list of row r over its entry is least
pub record IsLeastBelow (m columns : ℕ) (e : ℕ → ℕ → ℤ) (column n r : ℕ) : Type 0 where
  pub inside : r < n
  pub positive : pos 0 <ℤ e r column
  pub least : (i : ℕ) → i < n → pos 0 <ℤ e i column → IsLexNonNegative (m + 1) (gap m columns e column i r)

-- none of the first n rows has a positive entry in the column
pub record HasNoRowBelow (e : ℕ → ℕ → ℤ) (column n : ℕ) : Type 0 where
  pub none : (i : ℕ) → i < n → e i column ≤ℤ pos 0

abbrev pub IsBest : ℕ → ℕ → (ℕ → ℕ → ℤ) → ℕ → ℕ → Option ℕ → Type 0
IsBest m columns e column n None = HasNoRowBelow e column n
IsBest m columns e column n (Some r) = IsLeastBelow m columns e column n r
