-- What is said of each mechanism with some odds and payments is said of that of each table of masses with the odds.
use Rattle.std.specs.Prelude.{ℤ}
use Rattle.std.proofs.Common.{◌≡◌, ◌↔◌, sym, ap, subst}
use Rattle.md_setting.specs.Auction.{SymmetricAuction}
use Rattle.md_setting.specs.AuctionShaped.{IsAuction}
use Rattle.md_border.specs.declared.interim.Interim.{Interim}
use Rattle.md_mech.specs.Admissible.{IsAdmissible}
use Rattle.md_border.specs.Odds.{HasPays, demand_of}
use Rattle.md_expost.specs.declared.masses.Masses.{Masses}
use Rattle.md_expost.specs.Masses.{mass_of}
use Rattle.md_expost.proofs.MechanismLaws.{mechanism-of_masses, odds-of_masses, pays-of_masses}
use Rattle.md_winners.specs.Setting.{units_of}
use Rattle.md_unit_tables.specs.Mechanisms.{unit_mechanism_of}
use Rattle.md_unit_tables.specs.Tables.{IsUnitTable, table_of}
use Rattle.md_unit_tables.proofs.MechanismLaws.{mechanism-of_table, odds-of_table, pays-of_table}
use Rattle.md_answer.specs.declared.supply.Supply.{Supply}
use Rattle.md_answer.specs.declared.supply.Supply.TheVariants.{Item, Units}
use Rattle.md_claims.specs.AuctionClaims.{mechanism_in}
use Rattle.md_auction_report.specs.declared.auction_report.AuctionReport.{AuctionReport}
use Rattle.md_auction_report.specs.Admissible.{MissesNothing}
use Rattle.md_auction_report.specs.Mechanisms.{JudgesMechanisms}
use Rattle.md_cli_tell.specs.Reporting.{JudgesTables}

pub tables-judged : (supply : Supply) (a : SymmetricAuction) (interim : Interim) (report : AuctionReport) → IsAuction a → JudgesMechanisms supply a interim report → JudgesTables supply a interim report
tables-judged Item a interim report shaped judged masses table odds =
    judged (mechanism_in a interim masses) (mechanism-of_masses a masses interim.pays shaped table) (odds-of_masses a interim masses interim.pays shaped table odds)
    (subst (λ (den : ℤ). HasPays a (mechanism_in a interim masses) den interim.pays) odds.same_den (pays-of_masses a masses interim.pays shaped))
tables-judged (Units units) a interim report shaped judged masses table odds = all
  where
    -- the masses are over the denominator of the odds
    same : masses ≡ table_of interim masses.rows
    same = ap (λ (den : ℤ). record { den = den; rows = masses.rows }) odds.same_den

    all : IsAdmissible (units_of a units) (unit_mechanism_of a units masses interim.pays) ↔ MissesNothing report
    all =
        subst (λ (y : Masses). IsAdmissible (units_of a units) (unit_mechanism_of a units y interim.pays) ↔ MissesNothing report) (sym same)
        (judged (unit_mechanism_of a units (table_of interim masses.rows) interim.pays)
        (mechanism-of_table a units (table_of interim masses.rows) interim.pays shaped there)
        (odds-of_table a units interim masses.rows interim.pays shaped there (record { exact = λ v b. subst (λ (y : Masses). mass_of a y v ≡ demand_of a interim v) same (odds.exact v b) }))
        (pays-of_table a units (table_of interim masses.rows) interim.pays shaped))
      where
        there : IsUnitTable a units (table_of interim masses.rows)
        there = subst (IsUnitTable a units) same table
