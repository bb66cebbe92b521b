use Rattle.std.proofs.Common.{rules}
use Rattle.md_records.proofs.NextRecord.{few-records}
use Rattle.md_records.proofs.records.Records.new.Goals as goal

pub returns-clause-few : goal.returns-clause-few
returns-clause-few c = few-records _ c.args.text.now (search rules)
