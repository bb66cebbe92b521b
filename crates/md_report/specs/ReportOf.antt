-- What is told of a mechanism.
use Rattle.std.specs.Prelude.{◌≡◌}
use Rattle.md_setting.specs.Setting.{GeneralSetting}
use Rattle.md_mech.specs.declared.mechanism.Mechanism.{Mechanism}
use Rattle.md_mech.specs.Value.{IsValueOf}
use Rattle.md_report.specs.declared.demand.Demand.TheVariants.{Truthful, Willing}
use Rattle.md_report.specs.declared.report.Report.{Report}
use Rattle.md_report.specs.Averages.{IsRevenue, IsWelfare}
use Rattle.md_report.specs.Deficits.{IsDeficitOf}
use Rattle.md_report.specs.Tight.{tight_rows}
use Rattle.md_report.specs.Types.{all_types, AreTold}
use Rattle.md_report.specs.Worst.{AreWorstOf}

-- each part of the report but the value is what its definition says of the numbers
pub record AreFigures (s : GeneralSetting) (m : Mechanism) (report : Report) : Type 0 where
  pub revenue : IsRevenue s m report.revenue
  pub welfare : IsWelfare s m report.welfare
  pub types : AreTold s m (all_types s) report.types.items
  pub gains : AreWorstOf s m Truthful report.gains.items
  pub losses : AreWorstOf s m Willing report.losses.items
  pub deficit : IsDeficitOf s m report.deficit
  pub tight : report.tight.items ≡ tight_rows s m

-- and its value is that of the mechanism
pub record IsReportOf (s : GeneralSetting) (m : Mechanism) (report : Report) : Type 0 where
  pub value : IsValueOf s m report.value
  pub figures : AreFigures s m report
