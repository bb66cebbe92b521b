use Rattle.md_auction_report.proofs.RecordLaws.{name-told}
use Rattle.md_auction_report.proofs.records.name_of_row.Goals as goal

pub returns : goal.returns
returns c = name-told c.args.auction.now c.args.cuts.now c.args.row c.in_ok-name.name.items c.requires.inside c.in_ok-name.ensures
