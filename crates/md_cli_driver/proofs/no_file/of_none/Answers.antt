use Rattle.md_cli_driver.proofs.Works.{none-carried_out}
use Rattle.md_cli_driver.proofs.no_file.of_none.Goals as goal

pub returns : goal.returns
returns g c = λ setting second content faults.
    none-carried_out (g.C.NoFile.says c.args.command.now) g.C.NoFile.own setting second content faults c.answer.result c.answer.ensures
