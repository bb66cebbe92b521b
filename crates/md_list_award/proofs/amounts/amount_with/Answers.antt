use Rattle.std.proofs.Common.{◌≡◌, ◌≤◌, pos, length, sym, ap, ◌∙◌, subst, arith}
use Rattle.std.proofs.lemmas.List.{length-map}
use Rattle.md_bidders.proofs.SettingLaws.{is-report}
use Rattle.md_bidders.specs.Assignments.{amount_of}
use Rattle.md_math.proofs.Bits.{read_short_result}
use Rattle.md_list.specs.Lists.{rank_of, ranks_of}
use Rattle.md_list.specs.Rule.{amount_with}
use Rattle.md_list_award.proofs.BidLaws.{amount-is}
use Rattle.md_list_award.proofs.amounts.amount_with.Goals as goal

same : (c : goal.After-amount_of) → amount_of c.args.auction.now.slots c.slot_for.result ≡ amount_with c.args.auction.now (ranks_of c.args.ranks.now) c.args.profile.now c.args.bidder c.args.value
same c =
    let a = c.args.auction.now in
    let t = c.args.profile.now in
    ap (amount_of a.slots) c.slot_for.ensures.value
    ∙ amount-is a (ranks_of c.args.ranks.now) t c.args.bids.now _ _ c.args.bidder c.args.value c.place_of-place.result c.requires.bids
    (sym (length-map c.args.ranks.now rank_of)) (ap length c.slots.ensures.value ∙ length-map a.slots pos)
    c.requires.bidder (omega (arith, c.requires.bidder, (is-report a t c.requires.profile).long)) c.place_of-place.ensures.value

pub returns-clause-value : goal.returns-clause-value
returns-clause-value c = read_short_result c.amount_of.result c.amount_of.type_inv ∙ c.amount_of.ensures.value ∙ ap pos (same c)

pub returns-clause-small : goal.returns-clause-small
returns-clause-small c = subst (λ n. n ≤ 1000) (same c) c.amount_of.ensures.small
