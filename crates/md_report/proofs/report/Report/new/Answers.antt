use Rattle.std.proofs.Common.{sym, subst}
use Rattle.md_mech.specs.Value.{IsValueOf}
use Rattle.md_report.proofs.AdmissibleLaws.{admissible-shown}
use Rattle.md_report.proofs.NumberLaws.{accepted-numbers}
use Rattle.md_report.proofs.ToldLaws.{about, told-whole}
use Rattle.md_report.proofs.report.Report.new.Goals as goal

pub made-requires : goal.made-requires
made-requires c = accepted-numbers c.args.setting.now c.args.mechanism.now c.requires

pub returns-clause-parts : goal.returns-clause-parts
returns-clause-parts c = record {
  value = subst (IsValueOf c.args.setting.now c.args.mechanism.now) (sym c.in_ok-report.ensures.value) c.worth.ensures.value;
  figures = c.in_ok-report.ensures.figures;
}

pub returns-clause-about : goal.returns-clause-about
returns-clause-about c = about c.args.setting.now c.args.mechanism.now c.in_ok-report.report c.in_ok-report.ensures.figures

pub returns-clause-told : goal.returns-clause-told
returns-clause-told c = told-whole c.args.setting.now c.args.mechanism.now c.in_ok-report.report c.in_ok-report.ensures.shaped c.in_ok-report.ensures.figures

pub returns-clause-admissible : goal.returns-clause-admissible
returns-clause-admissible c =
    admissible-shown c.args.setting.now c.args.mechanism.now c.in_ok-report.report c.requires.mechanism c.in_ok-report.ensures.shaped c.in_ok-report.ensures.figures
