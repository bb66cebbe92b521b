use Rattle.md_cli_tell.proofs.Judged.{tables-judged}
use Rattle.md_cli_tell.proofs.report.interim_text.Goals as goal

pub returns : goal.returns
returns c =
    let told = c.in_ok-report.ensures in record {
      report = c.in_ok-report.report;
      is_report = told.parts;
      whole = told.told;
      admissible = told.admissible;
      mechanisms = told.mechanisms;
      expected = told.expected;
      tables = tables-judged c.args.supply.now c.args.auction.now c.args.interim.now c.in_ok-report.report told.shaped told.mechanisms;
      told = c.in_ok-text.ensures;
    }
