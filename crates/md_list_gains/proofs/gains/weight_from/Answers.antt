use Rattle.std.proofs.Common.{◌≡◌, ◌<◌, ◌≤◌, length, arith}
use Rattle.md_setting.specs.Grouped.{group_at}
use Rattle.md_list_gains.proofs.Shorts.{short-fits, read-short}
use Rattle.md_list_gains.proofs.GainSteps.{weights-is, from-more, from-end}
use Rattle.md_list_gains.proofs.gains.weight_from.Goals as goal

pub overflow_add-sum : goal.overflow_add-sum
overflow_add-sum c =
    let from : c.args.value ≤ length (group_at c.args.auction.now c.args.group).values = omega (arith, c.requires.value) in
    let here : c.loop-place.place < length c.weights-weights.result.now = omega arith in
    short-fits _ _
    (from-more c.args.auction.now c.args.group c.weights-weights.ensures.shaped c.requires.group c.weights-weights.result.now c.args.value c.loop-place.place _ c.weights-weights.ensures.value from here c.loop-place.invariant)

pub loop-place-preserved : goal.loop-place-preserved
loop-place-preserved c =
    let from : c.args.value ≤ length (group_at c.args.auction.now c.args.group).values = omega (arith, c.requires.value) in
    let here : c.loop-place.place < length c.weights-weights.result.now = omega arith in
    read-short _ _
    (from-more c.args.auction.now c.args.group c.weights-weights.ensures.shaped c.requires.group c.weights-weights.result.now c.args.value c.loop-place.place _ c.weights-weights.ensures.value from here c.loop-place.invariant)

pub returns-clause-value : goal.returns-clause-value
returns-clause-value c =
    let end : c.loop-place.place ≡ length c.weights-weights.result.now =
    omega (arith, c.requires.value, weights-is c.args.auction.now c.args.group c.weights-weights.ensures.shaped c.requires.group c.weights-weights.result.now c.weights-weights.ensures.value) in
    from-end c.args.auction.now c.args.group c.weights-weights.ensures.shaped c.requires.group c.weights-weights.result.now c.args.value c.loop-place.place _ c.weights-weights.ensures.value end c.loop-place.invariant
