-- What a unit table says of a point of a reduced program of several units.
use Rattle.std.specs.Prelude.{◌≡◌, ℕ, ℤ}
use Rattle.md_setting.specs.Auction.{SymmetricAuction}
use Rattle.md_border.specs.Odds.{IsInterim}
use Rattle.md_reduced.specs.Points.{interim_in}
use Rattle.md_unit_tables.specs.Tables.{ImplementsUnits, IsUnitTable, table_of}
use Rattle.md_units.specs.declared.unit_cuts.Realised.{Realised}

-- the odds and payments of a point, and a unit table that has exactly the odds
pub record IsUnitRealised (a : SymmetricAuction) (units : ℕ) (den : ℤ) (x : ℕ → ℤ) (realised : Realised) : Type 0 where
  pub interim : realised.interim ≡ interim_in a den x
  pub fits : IsInterim a realised.interim
  pub table : IsUnitTable a units (table_of realised.interim realised.masses)
  pub implements : ImplementsUnits a realised.interim realised.masses
