use Rattle.md_cli_tell.proofs.SaleLaws.{tables-judged}
use Rattle.md_cli_tell.proofs.sale_report.sale_text.Goals as goal

pub returns : goal.returns
returns c =
    let told = c.in_ok-report.ensures in record {
      report = c.in_ok-report.report;
      is_report = told.parts;
      whole = told.told;
      mechanisms = told.mechanisms;
      judged = told.judged;
      tables = tables-judged c.args.setting.now c.args.answer.now.interim c.in_ok-report.report.figures c.requires.sale told.shaped c.requires.fits.odds.fits.den_positive told.judged;
      told = c.in_ok-text.ensures;
    }
