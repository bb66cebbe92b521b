-- What `report` says of a sale and of an answer about it.
use Rattle.std.specs.Prelude.{◌≡◌, ◌↔◌, ℕ, ℤ, List}
use Rattle.md_setting.specs.Setting.{GeneralSetting}
use Rattle.md_mech.specs.Admissible.{IsAdmissible}
use Rattle.md_asym_tables.specs.Mechanisms.{mechanism_of}
use Rattle.md_asym_tables.specs.Tables.{Implements, IsProfileTable}
use Rattle.md_border.specs.declared.interim.Interim.{Interim}
use Rattle.md_asym.specs.declared.asym_answer.AsymAnswer.{AsymAnswer}
use Rattle.md_report.specs.declared.report.Report.{Report}
use Rattle.md_report.specs.Admissible.{IsToldWhole, MissesNothing}
use Rattle.md_sale_report.specs.Records.{sale_report_text}
use Rattle.md_sale_report.specs.ReportOf.{IsSaleReportOf, JudgesMechanisms, TellsMechanisms}
use Rattle.md_sale_report.specs.declared.sale_report.SaleReport.{SaleReport}
use Rattle.md_cli_driver.specs.Saying.{Saying}
use Rattle.md_cli_tell.specs.SaleAnswers.{IsSaidOfTable}

-- for each table of masses with these odds its mechanism is admissible exactly where the report shows neither a gain nor a loss above 0
abbrev pub JudgesTables : GeneralSetting → Interim → Report → Type 0
JudgesTables s interim report =
    (masses : List ℤ) → IsProfileTable s interim.den masses → Implements s interim.odds masses
    → IsAdmissible s (mechanism_of s interim.den masses interim.pays) ↔ MissesNothing report

-- The text tells what the odds and payments of an answer do, against the program of the sale with its cuts. Each mechanism with these
-- odds and payments has this report, and is admissible exactly where the text tells neither a gain nor a loss above 0; so is that of
-- each table of masses with the odds.
pub record IsSaleText (s : GeneralSetting) (answer : AsymAnswer) (text : List ℕ) : Type 0 where
  pub report : SaleReport
  pub is_report : IsSaleReportOf s answer.interim answer.cuts report
  pub whole : IsToldWhole s report.figures
  pub mechanisms : TellsMechanisms s answer.interim report.figures
  pub judged : JudgesMechanisms s answer.interim report.figures
  pub tables : JudgesTables s answer.interim report.figures
  pub told : text ≡ sale_report_text s report

abbrev pub IsSaleReporting : GeneralSetting → AsymAnswer → Saying → Type 0
IsSaleReporting s answer saying = (saying.status ≡ 0) × IsSaleText s answer saying.text

-- of a text that names another kind of answer than those with one lottery for each profile
abbrev pub IsOtherReporting : GeneralSetting → List ℕ → Saying → Type 0
IsOtherReporting = IsSaidOfTable IsSaleReporting
