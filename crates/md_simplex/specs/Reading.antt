-- The certificate that is read off a dictionary at the end of the path.
-- The table has the program rows, the face row and the main row; n program and slack columns, the start columns n + k, and the right side last.
use Rattle.std.specs.Prelude.{◌≡◌, ◌≢◌, ◌⊎◌, ℕ, zero, suc, ◌+◌, ◌<◌, ℤ, pos, neg_ℤ, ◌*ℤ◌, ◌≤ℤ◌, ◌<ℤ◌, List, length}
use Rattle.md_math.specs.Divisors.{AreCoprime}
use Rattle.md_math.specs.Lists.{number_at}
use Rattle.md_lp.specs.Program.{Program, row_count}
use Rattle.md_lp.specs.Divided.{AllZero}
use Rattle.md_dict.specs.FirstTable.{column_count, sign_at}
use Rattle.md_cert.specs.declared.bound.Bound.{Bound}
use Rattle.md_cert.specs.declared.certificate.Certificate.{Certificate}
use Rattle.md_cert.specs.declared.certificate.Certificate.TheVariants as certificates
use Rattle.md_simplex.specs.declared.order.Order.{Order}
use Rattle.md_simplex.specs.declared.step.Step.{Step}
use Rattle.md_simplex.specs.declared.step.Step.TheVariants as steps
use Rattle.md_simplex.specs.Rules.{IsNext}
use Rattle.md_simplex.specs.Path.{IsEnd}

-- ---- what is read

-- each program column that is basic has the number of its row, and every other program column 0
pub record IsAtBasis (columns rows : ℕ) (basis : ℕ → ℕ) (numbers x : ℕ → ℤ) : Type 0 where
  pub basic : (r : ℕ) → r < rows → basis r < columns → x (basis r) ≡ numbers r
  pub other : (j : ℕ) → j < columns → ((r : ℕ) → r < rows → basis r ≢ j) → x j ≡ pos 0

-- the point: each basic program column has its right side, and every other program column 0
abbrev pub IsReadPoint : Program → (ℕ → ℕ) → (ℕ → ℕ → ℤ) → (ℕ → ℤ) → Type 0
IsReadPoint p basis e x = IsAtBasis p.columns (row_count p) basis (λ r. e r (column_count p + row_count p)) x

-- the ray: the entering column has the denominator, each basic program column minus its entry in the entering column, and every other program column 0
pub record IsReadRay (p : Program) (basis : ℕ → ℕ) (den : ℤ) (e : ℕ → ℕ → ℤ) (column : ℕ) (x : ℕ → ℤ) : Type 0 where
  pub entering : column < p.columns → x column ≡ den
  pub basic : (r : ℕ) → r < row_count p → basis r < p.columns → x (basis r) ≡ neg_ℤ (e r column)
  pub other : (j : ℕ) → j < p.columns → j ≢ column → ((r : ℕ) → r < row_count p → basis r ≢ j) → x j ≡ pos 0

-- the multiplier of program row k that a row of the table gives: the sign of row k times the entry at its start column
abbrev pub multiplier_at : Program → (ℕ → ℕ → ℤ) → ℕ → ℕ → ℤ
multiplier_at p e row k = sign_at p k *ℤ e row (column_count p + k)

abbrev pub face_multiplier : Program → (ℕ → ℕ → ℤ) → ℕ → ℤ
face_multiplier p e k = multiplier_at p e (row_count p) k

abbrev pub main_multiplier : Program → (ℕ → ℕ → ℤ) → ℕ → ℤ
main_multiplier p e k = multiplier_at p e (row_count p + 1) k

-- ---- least terms

-- a positive factor of x is f at the places below n, and only 1 and -1 divide x there, or x is all 0
pub record IsReduced (n : ℕ) (f x : ℕ → ℤ) : Type 0 where
  pub by : ℤ
  pub positive : pos 0 <ℤ by
  pub times : (k : ℕ) → k < n → f k ≡ by *ℤ x k
  pub least : AreCoprime n x ⊎ AllZero n x

-- a denominator, and then the numbers over it
abbrev pub with_den : ℤ → (ℕ → ℤ) → ℕ → ℤ
with_den den x zero = den
with_den den x (suc k) = x k

-- the list has the numbers, divided by their own greatest common divisor
pub record IsReadList (n : ℕ) (f : ℕ → ℤ) (numbers : List ℤ) : Type 0 where
  pub one_each : length numbers ≡ n
  pub reduced : IsReduced n f (number_at numbers)

-- the list over its denominator has the numbers over theirs, both divided by the greatest common divisor of all
pub record IsReadOver (n : ℕ) (den : ℤ) (f : ℕ → ℤ) (over : ℤ) (numbers : List ℤ) : Type 0 where
  pub one_each : length numbers ≡ n
  pub reduced : IsReduced (n + 1) (with_den den f) (with_den over (number_at numbers))

-- ---- certificates

pub record IsPointReading (p : Program) (basis : ℕ → ℕ) (den : ℤ) (e : ℕ → ℕ → ℤ) (over : ℤ) (point : List ℤ) : Type 0 where
  pub x : ℕ → ℤ
  pub read : IsReadPoint p basis e x
  pub divided : IsReadOver p.columns den x over point

-- the main multipliers are over the denominator, and the face multipliers have none
pub record IsBoundReading (p : Program) (den : ℤ) (e : ℕ → ℕ → ℤ) (bound : Bound) : Type 0 where
  pub main : IsReadOver (row_count p) den (main_multiplier p e) bound.den bound.main
  pub face : IsReadList (row_count p) (face_multiplier p e) bound.face

pub record IsRayReading (p : Program) (basis : ℕ → ℕ) (den : ℤ) (e : ℕ → ℕ → ℤ) (column : ℕ) (ray : List ℤ) : Type 0 where
  pub x : ℕ → ℤ
  pub read : IsReadRay p basis den e column x
  pub divided : IsReadList p.columns x ray

-- the certificate that the dictionary gives where the path ends so
abbrev pub IsReading : Program → (ℕ → ℕ) → ℤ → (ℕ → ℕ → ℤ) → Step → Certificate → Type 0
IsReading p basis den e steps.Optimal (certificates.Optimal over point bound) = IsPointReading p basis den e over point × IsBoundReading p den e bound
IsReading p basis den e steps.Infeasible (certificates.Infeasible face) = IsReadList (row_count p) (face_multiplier p e) face
IsReading p basis den e (steps.Unbounded column) (certificates.Unbounded over point ray) = IsPointReading p basis den e over point × IsRayReading p basis den e column ray
IsReading p basis den e _ _ = ⊥

-- ---- dictionaries that can be read

-- the right side of each program row is at least 0
pub record HasRightSides (m n : ℕ) (e : ℕ → ℕ → ℤ) : Type 0 where
  pub nonneg : (r : ℕ) → r < m → pos 0 ≤ℤ e r (n + m)

-- the path ends here, by the rules with the columns in one order or the other
pub record IsLast (m n : ℕ) (e : ℕ → ℕ → ℤ) (step : Step) : Type 0 where
  pub order : Order
  pub next : IsNext order m n e step
  pub ends : IsEnd step
