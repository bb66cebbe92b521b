-- What follows for an answer about a sale from what its parts say.
use Rattle.std.proofs.Common.{ℕ, zero, suc, ◌<◌, ℤ, pos, ◌≤ℤ◌, List, arith}
use Rattle.md_setting.specs.Setting.{GeneralSetting}
use Rattle.md_setting.specs.Meaning.{outcome_count}
use Rattle.md_setting.specs.Shaped.{IsShaped}
use Rattle.md_border.specs.declared.interim.Interim.{Interim}
use Rattle.md_asym_sale.specs.Sale.{IsSale}
use Rattle.md_asym_tables.specs.Mechanisms.{mechanism_of}
use Rattle.md_asym_tables.proofs.MechanismLaws.{mechanism-of_table, odds-of_table, pays-of_table}
use Rattle.md_run.specs.OfSale.{IsSaleOutcome}
use Rattle.md_report.specs.declared.report.Report.{Report}
use Rattle.md_sale_report.specs.ReportOf.{JudgesMechanisms}
use Rattle.md_cli_tell.specs.SaleReporting.{JudgesTables}

-- what is said of each mechanism with the odds and payments is said of that of each table of masses with the odds
pub tables-judged : (s : GeneralSetting) (interim : Interim) (report : Report) → IsSale s → IsShaped s → pos 1 ≤ℤ interim.den → JudgesMechanisms s interim report → JudgesTables s interim report
tables-judged s interim report sale shaped positive judged masses table odds =
    judged (mechanism_of s interim.den masses interim.pays)
    (mechanism-of_table s interim.den masses interim.pays sale shaped positive table)
    (odds-of_table s interim.den interim.odds masses interim.pays sale odds)
    (pays-of_table s interim.den masses interim.pays)

-- the outcome that is drawn is one of the sale's
pub outcome-in : (s : GeneralSetting) (y : List ℤ) (t : List ℕ) (draw : ℤ) (outcome : ℕ) → IsSale s → IsSaleOutcome s y t draw outcome → outcome < outcome_count s
outcome-in s y t draw zero sale is = omega (arith, sale.one_more)
outcome-in s y t draw (suc i) sale is = omega (arith, sale.one_more, is.below)
