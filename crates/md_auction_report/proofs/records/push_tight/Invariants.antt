use Rattle.std.proofs.Common.{◌≡◌, ◌++◌, take, map}
use Rattle.md_auction_report.specs.Records.{tight_record}
use Rattle.md_auction_report.proofs.records.push_tight.Given as goal

abbrev pub invariant-loop-row : goal.invariant-loop-row
invariant-loop-row l = l.rows.items ≡ l.fn.rows.items ++ map (tight_record l.auction l.cuts) (take l.row-index l.tight)
