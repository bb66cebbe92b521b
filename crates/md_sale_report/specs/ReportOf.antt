-- What is told of interim odds and payments of a sale, and what it says of mechanisms.
use Rattle.std.specs.Prelude.{◌≡◌, ◌↔◌, ℕ, ◌*ℤ◌, List}
use Rattle.md_math.specs.Divisors.{IsLeastTerms}
use Rattle.md_border.specs.declared.interim.Interim.{Interim}
use Rattle.md_setting.specs.Setting.{GeneralSetting}
use Rattle.md_setting.specs.Meaning.{total_of}
use Rattle.md_mech.specs.declared.mechanism.Mechanism.{Mechanism}
use Rattle.md_mech.specs.Admissible.{IsAdmissible}
use Rattle.md_mech.specs.Mechanism.{IsMechanism}
use Rattle.md_asym_tables.specs.Odds.{HasOdds, HasPays}
use Rattle.md_asym.specs.Gains.{worth_by}
use Rattle.md_report.specs.declared.report.Report.{Report}
use Rattle.md_report.specs.Admissible.{MissesNothing}
use Rattle.md_report.specs.ReportOf.{AreFigures, IsReportOf}
use Rattle.md_sale_report.specs.declared.sale_report.SaleReport.{SaleReport}
use Rattle.md_sale_report.specs.OwnNumbers.{own_numbers}
use Rattle.md_sale_report.specs.TightCuts.{tight_cuts}

-- the value is that of the odds and payments in least terms, the other figures are those of the agents' own numbers, and the
-- cuts are those of the list that hold with equality
pub record IsSaleReportOf (s : GeneralSetting) (interim : Interim) (sets : List ℕ) (report : SaleReport) : Type 0 where
  pub value : report.figures.value.num *ℤ (interim.den *ℤ total_of s) ≡ worth_by s interim.den interim.odds interim.pays *ℤ report.figures.value.den
  pub least : IsLeastTerms report.figures.value.num report.figures.value.den
  pub figures : AreFigures s (own_numbers s interim) report.figures
  pub cuts : report.cuts.items ≡ tight_cuts s interim.den interim.odds sets

-- it is the report of each mechanism with the odds and the payments, with any denominator and numbers of any size
abbrev pub TellsMechanisms : GeneralSetting → Interim → Report → Type 0
TellsMechanisms s interim report =
    (m : Mechanism) → IsMechanism s m → HasOdds s m interim.den interim.odds → HasPays s m interim.den interim.pays → IsReportOf s m report

-- which is admissible exactly where the report shows neither a gain nor a loss above 0
abbrev pub JudgesMechanisms : GeneralSetting → Interim → Report → Type 0
JudgesMechanisms s interim report =
    (m : Mechanism) → IsMechanism s m → HasOdds s m interim.den interim.odds → HasPays s m interim.den interim.pays → IsAdmissible s m ↔ MissesNothing report
