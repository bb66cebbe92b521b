-- The mechanism of a closed form of several units: it has the odds and payments and the value, and is optimal.
use Rattle.std.proofs.Common.{ℕ}
use Rattle.md_setting.specs.Auction.{SymmetricAuction}
use Rattle.md_setting.specs.AuctionShaped.{IsAuction}
use Rattle.md_mech.specs.Mechanism.{IsMechanism}
use Rattle.md_mech.specs.Optimal.{IsOptimal}
use Rattle.md_mech.specs.Value.{IsValueOf}
use Rattle.md_winners.specs.Odds.{HasUnitOdds, HasUnitPays}
use Rattle.md_winners.specs.Setting.{units_of}
use Rattle.md_unit_tables.specs.Tables.{table_of}
use Rattle.md_unit_tables.proofs.MechanismLaws.{mechanism-of_table, odds-of_table, pays-of_table}
use Rattle.md_units.specs.Solved.{mechanism_in}
use Rattle.md_units.specs.declared.units_answer.UnitsAnswer.{UnitsAnswer}
use Rattle.md_units.proofs.UnitLaws.{value-of_odds}
use Rattle.md_iron.specs.ClosedForms.{IsClosedUnits}
use Rattle.md_iron.proofs.FormLaws.{form-fits, form-optimal}

module _ (a : SymmetricAuction) (units : ℕ) (answer : UnitsAnswer) (shaped : IsAuction a) (h : IsClosedUnits a units answer) where
  mechanism : IsMechanism (units_of a units) (mechanism_in a units answer)
  mechanism = mechanism-of_table a units (table_of answer.interim answer.masses) answer.interim.pays shaped h.table

  pub units-odds : HasUnitOdds a units (mechanism_in a units answer) answer.interim.den answer.interim.odds
  units-odds = odds-of_table a units answer.interim answer.masses answer.interim.pays shaped h.table h.implements

  pub units-pays : HasUnitPays a units (mechanism_in a units answer) answer.interim.den answer.interim.pays
  units-pays = pays-of_table a units (table_of answer.interim answer.masses) answer.interim.pays shaped

  pub units-optimal : IsOptimal (units_of a units) (mechanism_in a units answer)
  units-optimal = form-optimal a units answer.interim answer.cuts answer.bound shaped h.form (mechanism_in a units answer) mechanism units-odds units-pays

  pub units-value : IsValueOf (units_of a units) (mechanism_in a units answer) answer.value
  units-value = record {
    is_value = value-of_odds a units (mechanism_in a units answer) answer.interim answer.value shaped (form-fits a units answer.interim answer.cuts answer.bound shaped h.form).den_positive mechanism units-odds units-pays h.value_is;
    least = h.least;
  }
