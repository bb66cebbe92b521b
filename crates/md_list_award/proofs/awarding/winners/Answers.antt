use Rattle.std.proofs.Common.{◌≡◌, suc, length, pos, sym, ap, ◌∙◌, subst, arith, add-one}
use Rattle.std.proofs.lemmas.List.{length-map}
use Rattle.md_list.specs.Lists.{ranks_of}
use Rattle.md_list_award.proofs.Slots.{NobodyHas}
use Rattle.md_list_award.proofs.Winners.{all-winners, nobody-past, next-winner}
use Rattle.md_list_award.proofs.awarding.winners.Goals as goal

pub returns-in_default : goal.returns-in_default
returns-in_default c =
    let a = c.args.auction.now in
    let ranks = ranks_of c.args.ranks.now in
    let t = c.args.profile.now in
    let place = c.loop-place.place in
    all-winners a ranks t place c.loop-place.won.items c.loop-place.invariant
    (λ i b e. c.in_default.ensures i (omega (arith, b, c.requires.slots.long)) (c.requires.slots.slot i b ∙ e ∙ sym (add-one place)))

pub returns : goal.returns
returns c =
    let a = c.args.auction.now in
    let ranks = ranks_of c.args.ranks.now in
    let t = c.args.profile.now in
    let end : c.loop-place.place ≡ length a.slots = omega (arith, c.loop-place-test.false, c.loop-place.auto.place-end, ap length c.slots-place-end.ensures.value, length-map a.slots pos) in
    all-winners a ranks t c.loop-place.place c.loop-place.won.items c.loop-place.invariant
    (subst (λ n. NobodyHas a ranks t (suc n)) (sym end) (nobody-past a ranks t))

pub winner-requires-clause-bidder : goal.winner-requires-clause-bidder
winner-requires-clause-bidder c = omega (arith, c.in-Some.ensures.0, c.requires.slots.long)

pub winner-requires-clause-place : goal.winner-requires-clause-place
winner-requires-clause-place c = omega (arith, c.loop-place-test.true, ap length c.slots-place-end.ensures.value, length-map c.args.auction.now.slots pos)

pub winner-requires-clause-slot : goal.winner-requires-clause-slot
winner-requires-clause-slot c =
    sym (c.requires.slots.slot c.in-Some.bidder (omega (arith, c.in-Some.ensures.0, c.requires.slots.long))) ∙ c.in-Some.ensures.1 ∙ add-one c.loop-place.place

pub loop-place-preserved : goal.loop-place-preserved
loop-place-preserved c =
    next-winner c.args.auction.now (ranks_of c.args.ranks.now) c.args.profile.now c.loop-place.place c.loop-place.won.items _ c.winner.result c.loop-place.invariant c.winner.ensures c.in_ok-push.ensures.items
