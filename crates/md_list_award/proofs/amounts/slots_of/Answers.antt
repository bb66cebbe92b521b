use Rattle.std.proofs.Common.{◌<◌, length, pos, sym, ap, ◌∙◌, arith}
use Rattle.std.proofs.lemmas.List.{length-map}
use Rattle.md_setting.specs.Grouped.{bidder_count}
use Rattle.md_bidders.proofs.SettingLaws.{is-report}
use Rattle.md_list.specs.Lists.{rank_of, ranks_of}
use Rattle.md_list_award.proofs.BidLaws.{own-slot, next-slot}
use Rattle.md_list_award.proofs.amounts.slots_of.Goals as goal

pub loop-bidder-preserved : goal.loop-bidder-preserved
loop-bidder-preserved c =
    let a = c.args.auction.now in
    let t = c.args.profile.now in
    let below : c.loop-bidder.bidder < bidder_count a = omega (arith, c.loop-bidder-test.true, c.requires.bids.long) in
    next-slot a (ranks_of c.args.ranks.now) t c.loop-bidder.bidder c.loop-bidder.slots.items _ c.slot_for.result c.loop-bidder.invariant
    (c.slot_for.ensures.value ∙ own-slot a (ranks_of c.args.ranks.now) t c.args.bids.now _ _ c.loop-bidder.bidder c.requires.bids
    (sym (length-map c.args.ranks.now rank_of)) (ap length c.slots-count.ensures.value ∙ length-map a.slots pos)
    below (omega (arith, below, (is-report a t c.requires.profile).long)))
    c.in_ok-push.ensures.items
