-- Numbers that are divided by their greatest common divisor, and rows and costs of such numbers.
use Rattle.std.specs.Prelude.{ℕ, ℤ, pos, ◌*ℤ◌, ◌<ℤ◌, ◌<◌, ◌≡◌, ◌⊎◌, ◌↔◌, List, [], length, slice_index_or}
use Rattle.md_math.specs.Divisors.{IsGcdOf}
use Rattle.md_math.specs.Lists.{number_at}
use Rattle.md_math.specs.Sums.{dot}
use Rattle.md_lp.specs.declared.term.Term.{Term}
use Rattle.md_lp.specs.Program.{Program, Row, HoldsAtPoint, with_row}
use Rattle.md_lp.specs.Point.{cost_sum}
use Rattle.md_lp.specs.Shape.{numbers_of, column_in}

-- f is 0 at each place below n
pub record AllZero (n : ℕ) (f : ℕ → ℤ) : Type 0 where
  pub zero : (k : ℕ) → k < n → f k ≡ pos 0

-- the number by which f is divided at the places below n: the greatest common divisor, or 1 where all numbers are 0
abbrev pub IsDivisorFor : ℕ → (ℕ → ℤ) → ℤ → Type 0
IsDivisorFor n f g = (IsGcdOf n f g × (pos 0 <ℤ g)) ⊎ (AllZero n f × (g ≡ pos 1))

-- ---- rows

-- the value of the term at a place
abbrev pub value_in : List Term → ℕ → ℤ
value_in terms k = (slice_index_or terms k (record { column = 0; value = pos 0 })).value

-- the same columns, and g times the values gives the raw ones
pub record IsDividedTerms (g : ℤ) (raw terms : List Term) : Type 0 where
  pub length_is : length terms ≡ length raw
  pub columns : (k : ℕ) → k < length raw → column_in terms k ≡ column_in raw k
  pub values : (k : ℕ) → k < length raw → value_in raw k ≡ g *ℤ value_in terms k

-- the row, with its right side, is `raw` divided
pub record IsDividedRow (raw row : Row) : Type 0 where
  pub by : ℤ
  pub divisor : IsDivisorFor (length (numbers_of raw)) (number_at (numbers_of raw)) by
  pub kind : row.kind ≡ raw.kind
  pub right : raw.right ≡ by *ℤ row.right
  pub terms : IsDividedTerms by raw.terms row.terms

-- the two rows hold at the same points
pub record HasSamePoints (raw row : Row) : Type 0 where
  pub same : (n : ℕ) (den : ℤ) (x : ℕ → ℤ) → HoldsAtPoint n raw den x ↔ HoldsAtPoint n row den x

-- the program has one more row at its end: `raw` divided, which holds at the points at which `raw` holds
pub record AppendsDivided (old new : Program) (raw : Row) : Type 0 where
  pub row : Row
  pub appended : new ≡ with_row old row
  pub divided : IsDividedRow raw row
  pub points : HasSamePoints raw row

-- ---- costs

-- g times the numbers gives the raw ones
pub record IsDividedList (g : ℤ) (raw divided : List ℤ) : Type 0 where
  pub length_is : length divided ≡ length raw
  pub numbers : (k : ℕ) → k < length raw → number_at raw k ≡ g *ℤ number_at divided k

-- a program with no row, whose cost is `raw` divided: each point's cost times the factor is its raw cost
pub record HasDividedCost (columns : ℕ) (raw : List ℤ) (p : Program) : Type 0 where
  pub columns_are : p.columns ≡ columns
  pub divisor : IsDivisorFor (length raw) (number_at raw) p.factor
  pub divided : IsDividedList p.factor raw p.cost
  pub no_row : p.rows ≡ []
  pub cost_is : (x : ℕ → ℤ) → dot columns (number_at raw) x ≡ p.factor *ℤ cost_sum p x
