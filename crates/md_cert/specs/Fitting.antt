-- The sizes that a certificate must have for a program: one number for each column or row, of up to 62 bits.
use Rattle.std.specs.Prelude.{ℕ, ℤ, pos, ◌-◌, ◌^◌, ◌<◌, ◌≤ℤ◌, ◌<ℤ◌, ◌≡◌, List, length}
use Rattle.md_math.specs.Lists.{number_at}
use Rattle.md_math.specs.Sizes.{IsWithin, AllWithin}
use Rattle.md_lp.specs.Program.{Program, row_count}
use Rattle.md_cert.specs.declared.bound.Bound.{Bound}
use Rattle.md_cert.specs.declared.certificate.Certificate.{Certificate}
use Rattle.md_cert.specs.declared.certificate.Certificate.TheVariants.{Optimal, Infeasible, Unbounded}

-- a number for each column, at least 0
pub record FitsColumns (p : Program) (numbers : List ℤ) : Type 0 where
  pub one_each : length numbers ≡ p.columns
  pub sizes : AllWithin (2 ^ 62 - 1) numbers
  pub nonneg : (j : ℕ) → j < p.columns → pos 0 ≤ℤ number_at numbers j

-- a number for each row, of any sign
pub record FitsRows (p : Program) (numbers : List ℤ) : Type 0 where
  pub one_each : length numbers ≡ row_count p
  pub sizes : AllWithin (2 ^ 62 - 1) numbers

-- a denominator of at least 1
pub record IsDenominator (den : ℤ) : Type 0 where
  pub positive : pos 0 <ℤ den
  pub size : IsWithin (2 ^ 62 - 1) den

pub record FitsBound (p : Program) (bound : Bound) : Type 0 where
  pub den : IsDenominator bound.den
  pub main : FitsRows p bound.main
  pub face : FitsRows p bound.face

abbrev pub Fits : Program → Certificate → Type 0
Fits p (Optimal den point bound) = IsDenominator den × FitsColumns p point × FitsBound p bound
Fits p (Infeasible face) = FitsRows p face
Fits p (Unbounded den point ray) = IsDenominator den × FitsColumns p point × FitsColumns p ray
