use Rattle.std.proofs.Common.{◌≡◌, ◌++◌, take, map}
use Rattle.md_report.specs.Records.{tight_record}
use Rattle.md_report.proofs.records.push_tight.Given as goal

abbrev pub invariant-loop-row : goal.invariant-loop-row
invariant-loop-row l = l.rows.items ≡ l.fn.rows.items ++ map (tight_record l.setting) (take l.row-index l.tight)
