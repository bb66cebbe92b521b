-- What the rows of the reduced program of an auction that sells by pools are multiplied by, each as a fraction.
use Rattle.std.specs.Prelude.{◌≡◌, ℕ, ◌<◌, ℤ, ◌*ℤ◌, List, slice_get, Some}
use Rattle.md_num.specs.declared.frac.Frac.{Frac}
use Rattle.md_setting.specs.Auction.{SymmetricAuction, value_count}
use Rattle.md_lp.specs.Program.{Program, right_at}
use Rattle.md_iron_values.specs.Pools.{Pools}
use Rattle.md_iron_laws.specs.Rows.{ProgramRow, cut_row, rows_of, row_right}
use Rattle.md_iron_laws.specs.Multipliers.{multiplier_num, multiplier_den}
use Rattle.md_iron.specs.Shares.{fraction_in}

-- in the program of so many units the row of the cut that a value begins with was divided by the number at that value
pub record IsDividedBy (a : SymmetricAuction) (units : ℕ) (pools : Pools) (p : Program) (divisor : ℕ → ℤ) : Type 0 where
  pub at : (number s : ℕ) → slice_get (rows_of (value_count a) pools) number ≡ Some (cut_row s) → row_right a units (cut_row s) ≡ divisor s *ℤ right_at p number

-- the row is multiplied by the fraction
pub record IsMultiplierOf (a : SymmetricAuction) (pools : Pools) (factor : ℤ) (divisor : ℕ → ℤ) (row : ProgramRow) (fraction : Frac) : Type 0 where
  pub ratio : fraction.num *ℤ multiplier_den a pools factor row ≡ multiplier_num a pools divisor row *ℤ fraction.den

-- the row of a number is
pub record IsMultiplierAt (a : SymmetricAuction) (units : ℕ) (pools : Pools) (p : Program) (number : ℕ) (fraction : Frac) : Type 0 where
  pub is : (divisor : ℕ → ℤ) (row : ProgramRow) → IsDividedBy a units pools p divisor → slice_get (rows_of (value_count a) pools) number ≡ Some row → IsMultiplierOf a pools p.factor divisor row fraction

-- the first n rows are multiplied by the fractions
pub record AreRowMultipliers (a : SymmetricAuction) (units : ℕ) (pools : Pools) (p : Program) (n : ℕ) (fractions : List Frac) : Type 0 where
  pub at : (k : ℕ) → k < n → IsMultiplierAt a units pools p k (fraction_in fractions k)
