use Rattle.std.proofs.Common.{◌≡◌, ◌++◌, length, false, ◌∙◌, ap, arith}
use Rattle.std.specs.Prelude.{slice_index_or}
use Rattle.md_math.specs.Lists.{up_to}
use Rattle.md_parts.proofs.MadeRows.{joined-more}
use Rattle.md_cli_tell.specs.AwardTexts.{win_rows}
use Rattle.md_cli_tell.proofs.unit_draw.push_winners.Goals as goal

pub loop-bidder-preserved : goal.loop-bidder-preserved
loop-bidder-preserved c =
    joined-more (λ k. win_rows k (slice_index_or c.args.wins.now k false)) c.args.rows.now.items c.loop-bidder.rows.items c.push_win.new.rows.items c.loop-bidder.bidder c.loop-bidder.invariant
    c.in_ok-push_win.ensures

pub returns : goal.returns
returns c =
    let whole : c.loop-bidder.bidder ≡ length c.args.wins.now = omega (arith, c.loop-bidder-test.false, c.loop-bidder.auto.bidder-end, c.requires) in
    c.loop-bidder.invariant ∙ ap (λ n. c.args.rows.now.items ++ up_to n (λ i. win_rows i (slice_index_or c.args.wins.now i false))) whole
