use Rattle.std.proofs.Common.{◌≡◌, ◌++◌, take, map}
use Rattle.md_auction_report.specs.Records.{type_record}
use Rattle.md_auction_report.proofs.records.push_types.Given as goal

abbrev pub invariant-loop-told : goal.invariant-loop-told
invariant-loop-told l = l.rows.items ≡ l.fn.rows.items ++ map (type_record l.auction) (take l.told-index l.types)
