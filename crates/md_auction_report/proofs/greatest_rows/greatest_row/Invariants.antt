use Rattle.md_auction_report.specs.Greatest.{IsGreatestRow}
use Rattle.md_auction_report.proofs.greatest_rows.greatest_row.Given as goal

abbrev pub invariant-loop-row : goal.invariant-loop-row
invariant-loop-row l = IsGreatestRow l.auction l.units l.interim l.cuts l.start l.row l.greatest
