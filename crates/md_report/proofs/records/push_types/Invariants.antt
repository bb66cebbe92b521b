use Rattle.std.proofs.Common.{◌≡◌, ◌++◌, take, map}
use Rattle.md_report.specs.Records.{type_record}
use Rattle.md_report.proofs.records.push_types.Given as goal

abbrev pub invariant-loop-told : goal.invariant-loop-told
invariant-loop-told l = l.rows.items ≡ l.fn.rows.items ++ map (type_record l.setting) (take l.told-index l.types)
