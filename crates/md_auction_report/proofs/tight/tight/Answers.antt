use Rattle.std.proofs.Common.{◌≡◌, ◌++◌, length, ap, ◌∙◌, sym, arith}
use Rattle.md_math.specs.Lists.{up_to}
use Rattle.md_math.proofs.Builders.{up_to-more}
use Rattle.md_setting.specs.Auction.{value_count}
use Rattle.md_reduced.specs.Conditions.{conditions_of}
use Rattle.md_auction_report.specs.Tight.{tight_at}
use Rattle.md_auction_report.proofs.tight.tight.Goals as goal

pub push_if_tight-requires-clause-inside : goal.push_if_tight-requires-clause-inside
push_if_tight-requires-clause-inside c = omega (arith, c.loop-row-test.true, c.row_count-row-end.ensures)

pub loop-row-preserved : goal.loop-row-preserved
loop-row-preserved c =
    let at = tight_at c.args.auction.now c.args.units c.args.interim.now c.args.cuts.now in
    c.in_ok-push_if_tight.ensures ∙ ap (λ xs. xs ++ at c.loop-row.row) c.loop-row.invariant ∙ sym (up_to-more c.loop-row.row at)

pub returns : goal.returns
returns c =
    let a = c.args.auction.now in
    let end : c.loop-row.row ≡ length (conditions_of (value_count a) c.args.cuts.now) = omega (arith, c.loop-row-test.false, c.loop-row.auto.row-end, c.row_count-row-end.ensures) in
    c.loop-row.invariant ∙ ap (λ n. up_to n (tight_at a c.args.units c.args.interim.now c.args.cuts.now)) end
