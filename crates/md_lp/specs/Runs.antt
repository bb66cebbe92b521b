-- Sums of a run of columns, the first of them at a given column.
use Rattle.std.specs.Prelude.{ℕ, ◌+◌, ◌<◌, ◌≡◌, ℤ, ◌+ℤ◌, ◌*ℤ◌, List, length}
use Rattle.md_lp.specs.declared.term.Term.{Term}
use Rattle.md_math.specs.Lists.{number_at}
use Rattle.md_lp.specs.Program.{Program, value_of}
use Rattle.md_lp.specs.Point.{column_sum}

-- each sum grows by its column's coefficient times the weight
pub record AddsRow (terms : List Term) (first : ℕ) (weight : ℤ) (old new : List ℤ) : Type 0 where
  pub sums : (k : ℕ) → k < length new → number_at new k ≡ number_at old k +ℤ value_of terms (first + k) *ℤ weight

-- the sums of the columns from `first` on, with these numbers of the rows
pub record AreColumnSums (p : Program) (weights : List ℤ) (first : ℕ) (sums : List ℤ) : Type 0 where
  pub at : (k : ℕ) → k < length sums → number_at sums k ≡ column_sum p (number_at weights) (first + k)
