use Rattle.md_math.proofs.Bits.{read_result}
use Rattle.md_auction_report.proofs.TightLaws.{tight-told}
use Rattle.md_auction_report.proofs.tight.is_tight.Goals as goal

pub returns : goal.returns
returns c =
    tight-told c.args.auction.now c.args.units c.args.interim.now c.args.cuts.now c.args.row c.is_zero.result c.missed_in_row.result c.requires.fits c.requires.inside c.missed_in_row.ensures.value
    (rw (read_result c.missed_in_row.result c.missed_in_row.type_inv) at c.is_zero.ensures)
