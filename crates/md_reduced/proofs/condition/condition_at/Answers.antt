use Rattle.std.proofs.Common.{◌≡◌, ◌-◌, ◌*◌, ap, arith}
use Rattle.md_setting.specs.Auction.{value_count}
use Rattle.md_reduced.proofs.ConditionLaws.{conditions-length, truth-among, rational-at, cut-at}
use Rattle.md_reduced.proofs.condition.condition_at.Goals as goal

pub returns-then-row-truths : goal.returns-then-row-truths
returns-then-row-truths c =
    let at = rw (c.kinds-kinds.ensures.count) at c.truth_at.ensures in
    truth-among (value_count c.args.auction.now) c.args.cuts.now c.args.row c.truth_at.result (rw (c.kinds-kinds.ensures.count) at c.if-row-truths.true) at

pub returns-then-rest-kinds : goal.returns-then-rest-kinds
returns-then-rest-kinds c =
    let n = c.kinds-kinds.result in
    let k = value_count c.args.auction.now in
    let count : n ≡ k = c.kinds-kinds.ensures.count in
    let same : n * (n - 1) ≡ k * (k - 1) = ap (λ m. m * (m - 1)) count in
    rational-at k c.args.cuts.now c.args.row (c.args.row - n * (n - 1)) (omega (arith, c.if-rest-kinds.true, count)) (omega (arith, same, c.if-row-truths.false))

pub get-requires : goal.get-requires
get-requires c =
    let n = c.kinds-kinds.result in
    let k = value_count c.args.auction.now in
    let count : n ≡ k = c.kinds-kinds.ensures.count in
    let same : n * (n - 1) ≡ k * (k - 1) = ap (λ m. m * (m - 1)) count in
    omega (arith, same, count, c.requires.row, conditions-length k c.args.cuts.now, c.if-row-truths.false, c.if-rest-kinds.false)

pub returns : goal.returns
returns c =
    let n = c.kinds-kinds.result in
    let k = value_count c.args.auction.now in
    let count : n ≡ k = c.kinds-kinds.ensures.count in
    let same : n * (n - 1) ≡ k * (k - 1) = ap (λ m. m * (m - 1)) count in
    cut-at k c.args.cuts.now c.args.row (c.args.row - n * (n - 1) - n) c.get.result
    (omega (arith, same, count, c.requires.row, conditions-length k c.args.cuts.now, c.if-row-truths.false, c.if-rest-kinds.false))
    (omega (arith, same, count, c.if-row-truths.false, c.if-rest-kinds.false)) c.get.ensures c.requires.cuts
