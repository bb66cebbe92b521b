-- What the reduced program of several units says of the mechanisms of their sale, and what odds and payments are worth.
use Rattle.std.proofs.Common.{ℕ, pos, ◌≤ℤ◌, List}
use Rattle.md_num.specs.declared.frac.Frac.{Frac}
use Rattle.md_lp.specs.Program.{Program}
use Rattle.md_setting.specs.Auction.{SymmetricAuction}
use Rattle.md_setting.specs.AuctionShaped.{IsAuction}
use Rattle.md_mech.specs.declared.mechanism.Mechanism.{Mechanism}
use Rattle.md_mech.specs.Mechanism.{IsMechanism}
use Rattle.md_mech.specs.Value.{HasValue}
use Rattle.md_border.specs.declared.interim.Interim.{Interim}
use Rattle.md_border.proofs.MechanismWorth.{value-of_wins}
use Rattle.md_reduced.specs.Points.{interim_in}
use Rattle.md_reduced.specs.ProgramOf.{IsReducedProgram}
use Rattle.md_reduced.proofs.AdmissibleLaws.{sale-admits, sale-stands}
use Rattle.md_reduced.proofs.OptimalLaws.{sale-optimal}
use Rattle.md_winners.specs.Setting.{units_of}
use Rattle.md_winners.specs.Odds.{HasUnitOdds, HasUnitPays}
use Rattle.md_winners.proofs.UnitSales.{unit_sale, unit-sale, unit-odds-as, unit-pays-as}
use Rattle.md_units.specs.Mechanisms.{AdmitsUnitPoints, HoldsUnitAdmissible, MakesUnitOptimal}
use Rattle.md_unit_tables.specs.Worth.{HasUnitWorth}

module _ (a : SymmetricAuction) (units : ℕ) (cuts : List ℕ) (p : Program) (shaped : IsAuction a) (is : IsReducedProgram a units cuts p) where
  pub admits : AdmitsUnitPoints a units p
  admits m den x meets mechanism odds pays =
      sale-admits a (unit_sale a units) (unit-sale a units) cuts p shaped is m den x meets mechanism
      (unit-odds-as a units m den (interim_in a den x).odds odds) (unit-pays-as a units m den (interim_in a den x).pays pays)

  pub stands-in : HoldsUnitAdmissible a units p
  stands-in = sale-stands a (unit_sale a units) (unit-sale a units) cuts p shaped is

  pub makes-optimal : MakesUnitOptimal a units p
  makes-optimal m den x greatest mechanism odds pays =
      sale-optimal a (unit_sale a units) (unit-sale a units) shaped cuts p is den x greatest m mechanism
      (unit-odds-as a units m den (interim_in a den x).odds odds) (unit-pays-as a units m den (interim_in a den x).pays pays)

-- a fraction that odds and payments are worth is the value of a mechanism that has them
pub value-of_odds : (a : SymmetricAuction) (units : ℕ) (m : Mechanism) (interim : Interim) (value : Frac) → IsAuction a → pos 1 ≤ℤ interim.den → IsMechanism (units_of a units) m
    → HasUnitOdds a units m interim.den interim.odds → HasUnitPays a units m interim.den interim.pays → HasUnitWorth a units interim value → HasValue (units_of a units) m value
value-of_odds a units m interim value shaped positive mechanism odds pays =
    value-of_wins a (unit_sale a units) m interim shaped (unit-sale a units) mechanism
    (unit-odds-as a units m interim.den interim.odds odds) (unit-pays-as a units m interim.den interim.pays pays) value positive
