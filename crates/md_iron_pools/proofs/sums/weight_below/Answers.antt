use Rattle.std.proofs.Common.{◌≤◌, suc, arith}
use Rattle.md_setting.specs.Auction.{value_count}
use Rattle.md_iron_pools.proofs.Bounds.{weight_before-le}
use Rattle.md_iron_pools.proofs.sums.weight_below.Goals as goal

pub overflow_add-sum : goal.overflow_add-sum
overflow_add-sum c =
    let a = c.args.auction.now in
    let inside : suc c.loop-kind.kind ≤ value_count a = omega (arith, c.loop-kind-test.true, c.requires) in
    omega (arith, c.loop-kind.invariant, c.weight-sum.ensures.value, weight_before-le a (suc c.loop-kind.kind) c.kinds-shaped.ensures.shaped inside, c.kinds-shaped.ensures.shaped.total)

pub returns-clause-size : goal.returns-clause-size
returns-clause-size c =
    let a = c.args.auction.now in
    let inside : c.loop-kind.kind ≤ value_count a = omega (arith, c.requires) in
    omega (arith, c.loop-kind.invariant, weight_before-le a c.loop-kind.kind c.kinds-shaped.ensures.shaped inside)

pub returns-clause-small : goal.returns-clause-small
returns-clause-small c =
    let a = c.args.auction.now in
    let inside : c.loop-kind.kind ≤ value_count a = omega (arith, c.requires) in
    omega (arith, c.loop-kind.invariant, weight_before-le a c.loop-kind.kind c.kinds-shaped.ensures.shaped inside, c.kinds-shaped.ensures.shaped.total)
