use Rattle.std.proofs.Common.{◌≡◌, ◌+◌, length, arith}
use Rattle.md_setting.specs.Auction.{value_count}
use Rattle.md_reduced.specs.Conditions.{truths}
use Rattle.md_reduced.proofs.ConditionLaws.{conditions-length, truths-length}
use Rattle.md_auction_report.proofs.GreatestLaws.{stands-truths, greatest-block, no-conditions}
use Rattle.md_auction_report.proofs.worst.gain.Goals as goal

pub returns-then-truths-eq0 : goal.returns-then-truths-eq0
returns-then-truths-eq0 c = no-conditions (truths (value_count c.args.auction.now)) (omega (arith, c.if-truths-eq0.true, c.truth_rows-truths.ensures.count))

pub greatest_of-requires-clause-inside : goal.greatest_of-requires-clause-inside
greatest_of-requires-clause-inside c =
    let n = value_count c.args.auction.now in
    omega (arith, c.truth_rows-truths.ensures.count, truths-length n, conditions-length n c.args.cuts.now)

pub returns : goal.returns
returns c =
    let n = value_count c.args.auction.now in
    let whole : c.truth_rows-truths.result ≡ 0 + length (truths n) = omega (arith, c.truth_rows-truths.ensures.count) in
    greatest-block c.args.auction.now c.args.units c.args.interim.now c.args.cuts.now (truths n) 0 c.truth_rows-truths.result c.greatest_of.result
    (stands-truths n c.args.cuts.now) whole c.greatest_of.ensures
