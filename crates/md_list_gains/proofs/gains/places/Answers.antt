use Rattle.std.proofs.Common.{◌≡◌, length, ap, arith}
use Rattle.md_setting.specs.Grouped.{group_at}
use Rattle.md_list_gains.proofs.Gathered.{gathered-start, gathered-more, gathered-sums, gathered-curve}
use Rattle.md_list_gains.proofs.gains.places.Goals as goal

pub loop-value-init : goal.loop-value-init
loop-value-init c = gathered-start c.args.auction.now c.args.group c.push.new.self.items c.new-places.result.items c.new-places.ensures.items c.in_ok-push.ensures.items

pub with_value-sums-requires-clause-below : goal.with_value-sums-requires-clause-below
with_value-sums-requires-clause-below c = c.loop-value.invariant.last

pub loop-value-preserved : goal.loop-value-preserved
loop-value-preserved c =
    gathered-more c.args.auction.now c.args.group c.loop-value.value c.loop-value.places.items _ c.loop-value.sums _ c.loop-value.invariant c.with_value-sums.ensures c.in_ok-push-2.ensures.items

pub returns-clause-sums : goal.returns-clause-sums
returns-clause-sums c =
    let end : c.loop-value.value ≡ length (group_at c.args.auction.now c.args.group).values = omega (arith, ap length c.values-value-end.ensures.value) in
    gathered-sums c.args.auction.now c.args.group c.loop-value.value c.loop-value.places.items c.loop-value.sums c.loop-value.invariant end

pub returns-clause-curve : goal.returns-clause-curve
returns-clause-curve c =
    let end : c.loop-value.value ≡ length (group_at c.args.auction.now c.args.group).values = omega (arith, ap length c.values-value-end.ensures.value) in
    gathered-curve c.args.auction.now c.args.group c.loop-value.value c.loop-value.places.items c.loop-value.sums c.loop-value.invariant end c.values-value-end.ensures.shaped c.requires
