use Rattle.std.proofs.Common.{◌≡◌, subst, arith}
use Rattle.md_auction_report.specs.Greatest.{IsGreatestRow}
use Rattle.md_auction_report.proofs.GreatestLaws.{greatest-first, greatest-more}
use Rattle.md_auction_report.proofs.greatest_rows.greatest_row.Goals as goal

pub loop-row-init : goal.loop-row-init
loop-row-init c = greatest-first c.args.auction.now c.args.units c.args.interim.now c.args.cuts.now c.args.start

pub loop-row-preserved : goal.loop-row-preserved
loop-row-preserved c =
    greatest-more c.args.auction.now c.args.units c.args.interim.now c.args.cuts.now c.args.start c.loop-row.row c.loop-row.greatest c.greater-greatest.result c.loop-row.invariant c.greater-greatest.ensures

pub returns : goal.returns
returns c =
    let most = c.loop-row.auto.row-end (omega (arith, c.requires.some)) in
    let end : c.loop-row.row ≡ c.args.end = omega (arith, c.loop-row-test.false, most) in
    subst (λ n. IsGreatestRow c.args.auction.now c.args.units c.args.interim.now c.args.cuts.now c.args.start n c.loop-row.greatest) end c.loop-row.invariant
