-- Points of a program, and the sums that a program makes with lists of numbers.
use Rattle.std.specs.Prelude.{ℕ, ℤ, pos, ◌*ℤ◌, ◌≤ℤ◌, ◌<ℤ◌, ◌<◌}
use Rattle.md_math.specs.FirstFailure.{HoldsBelow}
use Rattle.md_math.specs.Sums.{dot}
use Rattle.md_lp.specs.Program.{Program, row_count, kind_at, right_at, coefficient_at, cost_at, Keeps}

-- the sum of a row's coefficients, each times the number of its column
abbrev pub row_sum : Program → (ℕ → ℤ) → ℕ → ℤ
row_sum p x r = dot p.columns (coefficient_at p r) x

-- the sum of the costs, each times the number of its column
abbrev pub cost_sum : Program → (ℕ → ℤ) → ℤ
cost_sum p x = dot p.columns (cost_at p) x

-- the sum of a column's coefficients, each times the number of its row
abbrev pub column_sum : Program → (ℕ → ℤ) → ℕ → ℤ
column_sum p w j = dot (row_count p) (λ r. coefficient_at p r j) w

-- the sum of the right sides, each times the number of its row
abbrev pub right_sum : Program → (ℕ → ℤ) → ℤ
right_sum p w = dot (row_count p) (right_at p) w

-- a point: a denominator of at least 1, and a number of at least 0 for each column
pub record IsPoint (p : Program) (den : ℤ) (x : ℕ → ℤ) : Type 0 where
  pub positive : pos 0 <ℤ den
  pub nonneg : (j : ℕ) → j < p.columns → pos 0 ≤ℤ x j

-- the point's sum in a row is at most, or is, the denominator times the right side
abbrev pub MeetsRow : Program → ℤ → (ℕ → ℤ) → ℕ → Type 0
MeetsRow p den x r = Keeps (kind_at p r) (row_sum p x r) (den *ℤ right_at p r)

-- a point that meets each row
pub record Meets (p : Program) (den : ℤ) (x : ℕ → ℤ) : Type 0 where
  pub point : IsPoint p den x
  pub rows : HoldsBelow (row_count p) (MeetsRow p den x)
