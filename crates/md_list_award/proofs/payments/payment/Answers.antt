use Rattle.std.proofs.Common.{◌≡◌, ℕ, ℤ, ◌<◌, ◌≤◌, ◌*◌, suc, pos, ◌+ℤ◌, ◌-ℤ◌, ◌*ℤ◌, length, refl, sym, ap, ap₂, ◌∙◌, subst, arith}
use Rattle.std.specs.Prelude.{slice_index}
use Rattle.md_math.specs.Lists.{number_at}
use Rattle.md_math.specs.Sizes.{IsWithin}
use Rattle.md_math.proofs.Bits.{read_result, read_short_result}
use Rattle.md_math.proofs.SumLaws.{sum_to-more}
use Rattle.md_setting.specs.Grouped.{GroupedAuction, group_at, group_of, value_at, value_count}
use Rattle.md_bidders.proofs.BidderLaws.{group-below}
use Rattle.md_bidders.proofs.SettingLaws.{is-report}
use Rattle.md_list.specs.Lists.{ranks_of}
use Rattle.md_list.specs.Rule.{amount_with, step_of}
use Rattle.md_list_award.proofs.Sizes.{amount_below-next, step-is, paid_to, paid-small}
use Rattle.md_list_award.proofs.Slots.{amounts-small}
use Rattle.md_list_award.proofs.payments.payment.Goals as goal

pub bounds-profile-bidder : goal.bounds-profile-bidder
bounds-profile-bidder c = omega (arith, c.requires.bidder, (is-report c.args.auction.now c.args.profile.now c.requires.profile).long)

pub overflow_add-value-end : goal.overflow_add-value-end
overflow_add-value-end c =
    let a = c.args.auction.now in
    let own = (is-report a c.args.profile.now c.requires.profile).below c.args.bidder c.requires.bidder in
    let few = (c.groups-shaped.ensures.shaped.small (group_of a c.args.bidder) (group-below a c.args.bidder c.requires.bidder)).few_values in
    omega (arith, own, few)

pub value_in-requires-clause-group : goal.value_in-requires-clause-group
value_in-requires-clause-group c =
    let a = c.args.auction.now in
    subst (λ k. k < length a.groups) (sym (c.requires.bids.group c.args.bidder c.requires.bidder)) (group-below a c.args.bidder c.requires.bidder)

pub value_in-requires-clause-value : goal.value_in-requires-clause-value
value_in-requires-clause-value c =
    let a = c.args.auction.now in
    let own = (is-report a c.args.profile.now c.requires.profile).below c.args.bidder c.requires.bidder in
    subst (λ k. c.loop-value.value < length (group_at a k).values) (sym (c.requires.bids.group c.args.bidder c.requires.bidder))
    (let below : c.loop-value.value < value_count a c.args.bidder = omega (arith, own, c.loop-value-test.true) in below)

pub with_step-pays-requires-clause-pays : goal.with_step-pays-requires-clause-pays
with_step-pays-requires-clause-pays c =
    let a = c.args.auction.now in
    let own = (is-report a c.args.profile.now c.requires.profile).below c.args.bidder c.requires.bidder in
    subst (IsWithin (64 * (1000000 * 1000))) (sym c.loop-value.invariant.paid)
    (paid-small a c.args.bidder c.loop-value.value (amount_with a (ranks_of c.args.ranks.now) c.args.profile.now c.args.bidder) c.groups-shaped.ensures.shaped c.requires.bidder
    (let below : c.loop-value.value ≤ value_count a c.args.bidder = omega (arith, own, c.loop-value-test.true) in below)
    (λ w. amounts-small a (ranks_of c.args.ranks.now) c.args.profile.now c.args.bidder w c.groups-shaped.ensures.shaped))

-- a value of a group that is that of a bidder
value : (a : GroupedAuction) (i k v : ℕ) (z : ℤ) → z ≡ number_at (group_at a k).values v → k ≡ group_of a i → z ≡ value_at a i v
value a i k v z e f = e ∙ ap (λ g. number_at (group_at a g).values v) f

pub with_step-pays-requires-clause-value : goal.with_step-pays-requires-clause-value
with_step-pays-requires-clause-value c =
    let a = c.args.auction.now in
    let small = c.groups-shaped.ensures.shaped.small (group_of a c.args.bidder) (group-below a c.args.bidder c.requires.bidder) in
    subst (IsWithin 1000000) (sym (read_short_result c.value_in.result c.value_in.type_inv ∙ value a c.args.bidder _ c.loop-value.value c.value_in.result c.value_in.ensures (c.requires.bids.group c.args.bidder c.requires.bidder))) (small.value c.loop-value.value)

pub loop-value-preserved : goal.loop-value-preserved
loop-value-preserved c =
    let a = c.args.auction.now in
    let q = amount_with a (ranks_of c.args.ranks.now) c.args.profile.now c.args.bidder in
    let amount = read_short_result c.amount_with-amount.result c.amount_with-amount.type_inv ∙ c.amount_with-amount.ensures.value in
    record {
      paid =
          read_result c.with_step-pays.result c.with_step-pays.type_inv
          ∙ c.with_step-pays.ensures
          ∙ ap₂ (λ x y. x +ℤ y) c.loop-value.invariant.paid
          (ap₂ (λ x y. x *ℤ y) (read_short_result c.value_in.result c.value_in.type_inv ∙ value a c.args.bidder _ c.loop-value.value c.value_in.result c.value_in.ensures (c.requires.bids.group c.args.bidder c.requires.bidder))
          (ap₂ (λ x y. x -ℤ y) amount c.loop-value.invariant.last ∙ step-is q c.loop-value.value))
          ∙ sym (sum_to-more c.loop-value.value (λ v. value_at a c.args.bidder v *ℤ step_of (λ w. pos (q w)) v));
      last = amount ∙ amount_below-next q c.loop-value.value (q c.loop-value.value) refl;
    }

pub returns : goal.returns
returns c =
    let a = c.args.auction.now in
    let whole : c.loop-value.value ≡ suc (slice_index c.args.profile.now c.args.bidder) = omega (arith, c.loop-value-test.false, c.loop-value.auto.value-end) in
    c.loop-value.invariant.paid
    ∙ ap (paid_to (value_at a c.args.bidder) (amount_with a (ranks_of c.args.ranks.now) c.args.profile.now c.args.bidder)) whole
