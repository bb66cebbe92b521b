-- What the end of a cut run of several units says of the sale.
use Rattle.std.proofs.Common.{◌≡◌, ℕ, List, refl, ap, ◌∙◌, subst}
use Rattle.md_math.specs.Divisors.{IsLeastTerms}
use Rattle.md_math.specs.Lists.{number_at}
use Rattle.md_num.specs.declared.frac.Frac.{Frac}
use Rattle.md_cert.specs.Claims.{IsOptimalPoint}
use Rattle.md_cert.proofs.Duality.{optimal-claim}
use Rattle.md_setting.specs.Auction.{SymmetricAuction}
use Rattle.md_setting.specs.AuctionShaped.{IsAuction}
use Rattle.md_mech.specs.declared.mechanism.Mechanism.{Mechanism}
use Rattle.md_mech.specs.Mechanism.{IsMechanism}
use Rattle.md_mech.specs.Optimal.{IsOptimal}
use Rattle.md_mech.specs.Value.{IsValueOf}
use Rattle.md_border.specs.declared.interim.Interim.{Interim}
use Rattle.md_reduced.specs.Points.{interim_in}
use Rattle.md_cut_runs.specs.declared.optimum.Optimum.{Optimum}
use Rattle.md_cut_runs.specs.CutRuns.{EndsSettled, IsShownBy}
use Rattle.md_winners.specs.Odds.{HasUnitOdds, HasUnitPays}
use Rattle.md_winners.specs.Setting.{units_of}
use Rattle.md_unit_tables.specs.Worth.{HasUnitWorth}
use Rattle.md_units.proofs.UnitLaws.{makes-optimal, value-of_odds}
use Rattle.md_unit_tables.specs.Mechanisms.{unit_mechanism_of}
use Rattle.md_unit_tables.specs.Tables.{table_of}
use Rattle.md_unit_tables.proofs.MechanismLaws.{mechanism-of_table, odds-of_table, pays-of_table}
use Rattle.md_units.specs.declared.unit_cuts.Realised.{Realised}
use Rattle.md_units.specs.declared.units_answer.UnitsAnswer.{UnitsAnswer}
use Rattle.md_units.specs.Solved.{IsSolvedUnits, TellsUnits}
use Rattle.md_cuts.specs.AuctionCuts.{unit_cutting}
use Rattle.md_units.specs.UnitCuts.{IsUnitRealised}

-- the answer that an end gives
abbrev answer : Frac → List ℕ → Optimum → Realised → UnitsAnswer
answer value cuts optimum table = record { value = value; cuts = cuts; interim = table.interim; masses = table.masses; bound = optimum.bound }

module _ (a : SymmetricAuction) (units width : ℕ) (value : Frac) (cuts : List ℕ) (optimum : Optimum) (table : Realised) (realised : IsUnitRealised a units optimum.den (number_at optimum.point) table) where
  pub tells-with : (other : List ℕ) (best : Optimum) → (cuts ≡ other) × (optimum ≡ best) → TellsUnits a other best (answer value cuts optimum table)
  tells-with other best same = record {
    same_cuts = same.0;
    interim = realised.interim ∙ ap (λ (o : Optimum). interim_in a o.den (number_at o.point)) same.1;
    bound = ap (λ (o : Optimum). o.bound) same.1;
  }

  pub solved-with : EndsSettled (unit_cutting a units) width cuts optimum → IsShownBy (unit_cutting a units) cuts optimum → IsSolvedUnits a units width (answer value cuts optimum table)
  solved-with ends shown = record { optimum = optimum; ends = ends; shown = shown; tells = tells-with cuts optimum (refl, refl) }

  abbrev made : Mechanism
  made = unit_mechanism_of a units (table_of table.interim table.masses) table.interim.pays

  module _ (shaped : IsAuction a) where
    mechanism : IsMechanism (units_of a units) made
    mechanism = mechanism-of_table a units (table_of table.interim table.masses) table.interim.pays shaped realised.table

    pub odds-with : HasUnitOdds a units made table.interim.den table.interim.odds
    odds-with = odds-of_table a units table.interim table.masses table.interim.pays shaped realised.table realised.implements

    pub pays-with : HasUnitPays a units made table.interim.den table.interim.pays
    pays-with = pays-of_table a units (table_of table.interim table.masses) table.interim.pays shaped

    pub optimal-with : EndsSettled (unit_cutting a units) width cuts optimum → IsShownBy (unit_cutting a units) cuts optimum → IsOptimal (units_of a units) made
    optimal-with ends shown =
        let p = ends.optimum_of.program in
        let x = number_at optimum.point in
        let greatest : IsOptimalPoint p optimum.den x =
        optimal-claim p optimum.den optimum.bound.den x (number_at optimum.bound.main) (number_at optimum.bound.face) (shown.certified p ends.optimum_of.is_program) in
        makes-optimal a units cuts p shaped ends.optimum_of.is_program made optimum.den x greatest mechanism
        (subst (λ (i : Interim). HasUnitOdds a units made i.den i.odds) realised.interim odds-with)
        (subst (λ (i : Interim). HasUnitPays a units made i.den i.pays) realised.interim pays-with)

    -- the fraction that its odds and payments are worth is its value
    pub value-with : HasUnitWorth a units table.interim value → IsLeastTerms value.num value.den → IsValueOf (units_of a units) made value
    value-with worth least = record {
      is_value = value-of_odds a units made table.interim value shaped realised.fits.den_positive mechanism odds-with pays-with worth;
      least = least;
    }
