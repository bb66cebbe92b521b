use Rattle.md_report.proofs.ToldLaws.{about, told-whole}
use Rattle.md_report.proofs.report.Report.with_value.Goals as goal

pub returns-clause-about : goal.returns-clause-about
returns-clause-about c = about c.args.setting.now c.args.numbers.now c.in_ok-report.report c.in_ok-report.ensures.figures

pub returns-clause-told : goal.returns-clause-told
returns-clause-told c = told-whole c.args.setting.now c.args.numbers.now c.in_ok-report.report c.in_ok-report.ensures.shaped c.in_ok-report.ensures.figures
