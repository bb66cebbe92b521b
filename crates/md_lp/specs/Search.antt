-- Where a column stands among the terms of a row.
use Rattle.std.specs.Prelude.{ℕ, ◌<◌, ◌≤◌, ◌≡◌, List, length, drop}
use Rattle.md_lp.specs.declared.term.Term.{Term}
use Rattle.md_lp.specs.Shape.{column_in}

-- a term at this column would go at place k: smaller columns before it, and greater ones from it on
pub record IsGapFor (terms : List Term) (column k : ℕ) : Type 0 where
  pub in_range : k ≤ length terms
  pub smaller_before : (j : ℕ) → j < k → column_in terms j < column
  pub greater_after : (j : ℕ) → k ≤ j → j < length terms → column < column_in terms j

-- the rest has the terms from the column `first` on
pub record StartsFrom (terms : List Term) (first : ℕ) (rest : List Term) : Type 0 where
  pub place : ℕ
  pub in_range : place ≤ length terms
  pub is : rest ≡ drop place terms
  pub before : (j : ℕ) → j < place → column_in terms j < first
  pub after : (j : ℕ) → place ≤ j → j < length terms → first ≤ column_in terms j
