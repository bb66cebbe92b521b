-- What an answer about a sale of several units claims of the mechanism of its masses.
use Rattle.std.specs.Prelude.{ℕ}
use Rattle.md_setting.specs.Auction.{SymmetricAuction}
use Rattle.md_mech.specs.declared.mechanism.Mechanism.{Mechanism}
use Rattle.md_mech.specs.Optimal.{IsOptimal}
use Rattle.md_border.specs.declared.interim.Interim.{Interim}
use Rattle.md_expost.specs.declared.masses.Masses.{Masses}
use Rattle.md_winners.specs.Setting.{units_of}
use Rattle.md_winners.specs.Odds.{HasUnitOdds, HasUnitPays}
use Rattle.md_unit_tables.specs.Mechanisms.{unit_mechanism_of}

-- the mechanism of the masses, in which each bidder pays what the interim payments say of its value
abbrev pub unit_mechanism_in : SymmetricAuction → ℕ → Interim → Masses → Mechanism
unit_mechanism_in a units interim masses = unit_mechanism_of a units masses interim.pays

-- It is optimal over all mechanisms of the units, of any denominator and with numbers of any size, those that treat
-- bidders with the same value differently among them, and it has exactly the odds and the payments.
pub record IsOptimalUnitRule (a : SymmetricAuction) (units : ℕ) (interim : Interim) (masses : Masses) : Type 0 where
  pub optimal : IsOptimal (units_of a units) (unit_mechanism_in a units interim masses)
  pub odds : HasUnitOdds a units (unit_mechanism_in a units interim masses) interim.den interim.odds
  pub pays : HasUnitPays a units (unit_mechanism_in a units interim masses) interim.den interim.pays
