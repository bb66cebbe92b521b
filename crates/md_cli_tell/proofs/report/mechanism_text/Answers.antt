use Rattle.md_cli_tell.proofs.report.mechanism_text.Goals as goal

pub returns : goal.returns
returns c =
    let told = c.in_ok-report.ensures in record {
      report = c.in_ok-report.report;
      is_report = rw c.mechanism.ensures at told.parts;
      whole = told.told;
      admissible = rw c.mechanism.ensures at told.admissible;
      conditions = c.in_ok-conditions.conditions.items;
      stands = c.in_ok-conditions.ensures;
      told = c.in_ok-text.ensures;
    }
