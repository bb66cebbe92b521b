use Rattle.std.proofs.Common.{arith}
use Rattle.md_cli_driver.proofs.Limits.{file_of-long, file_of-whole}
use Rattle.md_cli_driver.proofs.read.read_file.Goals as goal

pub returns-in-Ok-clause-told : goal.returns-in-Ok-clause-told
returns-in-Ok-clause-told g c = λ all told _ _.
    file_of-long c.args.limit c.args.too_long c.in-Ok.bytes.items all (c.in-Ok.ensures.whole all told) (omega arith)

pub returns-in-Ok-2-clause-told : goal.returns-in-Ok-2-clause-told
returns-in-Ok-2-clause-told g c = λ all told.
    file_of-whole c.args.limit c.args.too_long c.in-Ok.bytes.items all (c.in-Ok.ensures.whole all told) (omega arith)
