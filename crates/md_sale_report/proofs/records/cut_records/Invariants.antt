use Rattle.std.proofs.Common.{◌≡◌, take, map}
use Rattle.md_sale_report.specs.Records.{cut_record}
use Rattle.md_sale_report.proofs.records.cut_records.Given as goal

abbrev pub invariant-loop-set : goal.invariant-loop-set
invariant-loop-set l = l.rows.items ≡ map cut_record (take l.set-index l.cuts)
