use Rattle.std.proofs.Common.{◌≡◌, ◌++◌, take}
use Rattle.md_report.specs.Records.{worst_records}
use Rattle.md_report.proofs.worst_records.push_worst.Given as goal

abbrev pub invariant-loop-worst : goal.invariant-loop-worst
invariant-loop-worst l = l.rows.items ≡ l.fn.rows.items ++ worst_records l.setting (take l.worst-index l.told)
