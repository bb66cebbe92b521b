-- What the report of odds and payments says of the mechanisms that have them.
use Rattle.std.proofs.Common.{◌≡◌, ℤ, pos, ◌*ℤ◌, ◌≤ℤ◌, ◌<ℤ◌, arith}
use Rattle.std.proofs.lemmas.Int.{ints}
use Rattle.md_math.specs.Lists.{number_at}
use Rattle.md_math.specs.Divisors.{IsLeastTerms}
use Rattle.md_border.specs.declared.interim.Interim.{Interim}
use Rattle.md_setting.specs.Setting.{GeneralSetting}
use Rattle.md_setting.specs.Meaning.{total_of}
use Rattle.md_setting.specs.Shaped.{IsShaped}
use Rattle.md_mech.specs.declared.mechanism.Mechanism.{Mechanism}
use Rattle.md_mech.specs.Mechanism.{IsMechanism}
use Rattle.md_asym_sale.specs.Sale.{IsSale}
use Rattle.md_asym_laws.specs.Odds.{HasPairOdds, HasPairPays}
use Rattle.md_asym_tables.specs.Odds.{HasOdds, HasPays}
use Rattle.md_asym.specs.Gains.{worth_by}
use Rattle.md_report.specs.declared.report.Report.{Report}
use Rattle.md_report.specs.ReportOf.{AreFigures}
use Rattle.md_report.proofs.AdmissibleLaws.{admissible-shown}
use Rattle.md_report.proofs.FigureLaws.{figures-scaled}
use Rattle.md_sale_report.specs.OwnNumbers.{own_numbers}
use Rattle.md_sale_report.specs.ReportOf.{TellsMechanisms, JudgesMechanisms}
use Rattle.md_sale_report.proofs.Alike.{same-odds}
use Rattle.md_sale_report.proofs.NumberLaws.{own-odds, own-pays}
use Rattle.md_sale_report.proofs.ValueLaws.{value-told}

above : (z : ℤ) → pos 1 ≤ℤ z → pos 0 <ℤ z
above z h = omega (arith, ints, h)

pair-odds : (s : GeneralSetting) (m : Mechanism) (interim : Interim) → HasOdds s m interim.den interim.odds → HasPairOdds s m interim.den (number_at interim.odds)
pair-odds s m interim has = record { wins = has.wins }

pair-pays : (s : GeneralSetting) (m : Mechanism) (interim : Interim) → HasPays s m interim.den interim.pays → HasPairPays s m interim.den (number_at interim.pays)
pair-pays s m interim has = record { paid = has.paid }

-- the figures are those of each mechanism with the odds and payments
figures-of : (s : GeneralSetting) (m : Mechanism) (interim : Interim) (report : Report) → IsSale s → IsShaped s → pos 1 ≤ℤ interim.den → AreFigures s (own_numbers s interim) report
    → IsMechanism s m → HasOdds s m interim.den interim.odds → HasPays s m interim.den interim.pays → AreFigures s m report
figures-of s m interim report sale shaped positive figures mechanism odds pays =
    let n = own_numbers s interim in
    figures-scaled s m n interim.den m.den report sale.paid.no_deficit
    (same-odds s m n (number_at interim.odds) (number_at interim.pays) sale shaped (above m.den mechanism.den) (above interim.den positive)
    (pair-odds s m interim odds) (pair-pays s m interim pays) (own-odds s interim sale) (own-pays s interim))
    figures

pub tells : (s : GeneralSetting) (interim : Interim) (report : Report) → IsSale s → IsShaped s → pos 1 ≤ℤ interim.den → AreFigures s (own_numbers s interim) report
    → report.value.num *ℤ (interim.den *ℤ total_of s) ≡ worth_by s interim.den interim.odds interim.pays *ℤ report.value.den → IsLeastTerms report.value.num report.value.den
    → TellsMechanisms s interim report
tells s interim report sale shaped positive figures value least m mechanism odds pays = record {
  value = record {
    is_value = value-told s m interim report.value sale shaped (above interim.den positive) mechanism (pair-odds s m interim odds) (pair-pays s m interim pays) value;
    least = least;
  };
  figures = figures-of s m interim report sale shaped positive figures mechanism odds pays;
}

pub judges : (s : GeneralSetting) (interim : Interim) (report : Report) → IsSale s → IsShaped s → pos 1 ≤ℤ interim.den → AreFigures s (own_numbers s interim) report → JudgesMechanisms s interim report
judges s interim report sale shaped positive figures m mechanism odds pays =
    admissible-shown s m report mechanism shaped (figures-of s m interim report sale shaped positive figures mechanism odds pays)
