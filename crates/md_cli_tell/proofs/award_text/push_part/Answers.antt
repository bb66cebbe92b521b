use Rattle.std.proofs.Common.{◌≡◌, ◌<◌, ◌++◌, length, get_or, pos, None, false, ◌∙◌, ap, arith}
use Rattle.std.proofs.lemmas.List.{get_or_default}
use Rattle.md_math.specs.Lists.{up_to}
use Rattle.md_parts.proofs.MadeRows.{joined-more}
use Rattle.md_threshold.specs.declared.shares.Share.{Share}
use Rattle.md_cli_tell.specs.AwardTexts.{no_share, share_at, share_rows}
use Rattle.md_cli_tell.proofs.award_text.push_part.Goals as goal

pub loop-bidder-preserved : goal.loop-bidder-preserved
loop-bidder-preserved c =
    let i = c.loop-bidder.bidder in
    let here : i < length c.args.shares.now = omega (arith, c.loop-bidder-test.true, c.requires) in
    let zero : Share = record { chance = record { num = pos 0; den = pos 0 }; price = None; wins = false } in
    let same : get_or c.args.shares.now i zero ≡ share_at c.args.shares.now i = get_or_default c.args.shares.now i zero no_share here in
    joined-more (λ k. share_rows c.args.part k (share_at c.args.shares.now k)) c.args.rows.now.items c.loop-bidder.rows.items c.push_share.new.rows.items i c.loop-bidder.invariant
    (c.in_ok-push_share.ensures ∙ ap (λ share. c.loop-bidder.rows.items ++ share_rows c.args.part i share) same)

pub returns : goal.returns
returns c =
    let whole : c.loop-bidder.bidder ≡ length c.args.shares.now = omega (arith, c.loop-bidder-test.false, c.loop-bidder.auto.bidder-end, c.requires) in
    c.loop-bidder.invariant ∙ ap (λ n. c.args.rows.now.items ++ up_to n (λ i. share_rows c.args.part i (share_at c.args.shares.now i))) whole
