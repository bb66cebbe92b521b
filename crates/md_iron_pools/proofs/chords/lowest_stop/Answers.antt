use Rattle.std.proofs.Common.{◌≤◌, ◌+◌, refl, sym, subst, arith}
use Rattle.md_setting.specs.Auction.{value_count}
use Rattle.md_iron_values.specs.VirtualValues.{weight_to, virtual_to}
use Rattle.md_iron_pools.proofs.Bounds.{weights-rise}
use Rattle.md_iron_pools.proofs.Searches.{IsLowestChord, IsLowestChord-start, IsLowestChord-kept, IsLowestChord-moved}
use Rattle.md_iron_pools.proofs.chords.lowest_stop.Goals as goal
use Rattle.md_iron_pools.proofs.chords.lowest_stop.Goals.{then-is_under, else-is_under}

pub loop-place-init : goal.loop-place-init
loop-place-init c = IsLowestChord-start (weight_to c.args.auction.now) (virtual_to c.args.auction.now) c.args.first _ refl

pub loop-place-preserved : goal.loop-place-preserved
loop-place-preserved c =
    let a = c.args.auction.now in
    let n = c.loop-place.place in
    let inside : n ≤ value_count a = omega (arith, c.loop-place-test.true, c.kinds-place-end.ensures.count) in
    elim c.if-is_under.branch [
      | then-is_under w ↦
          subst (IsLowestChord (n + 1) (weight_to a) (virtual_to a) c.args.first) (sym w.stop-is)
          (IsLowestChord-moved (value_count a) n (weight_to a) (virtual_to a) c.args.first c.loop-place.stop (weights-rise a c.kinds-place-end.ensures.shaped) inside c.loop-place.invariant (c.is_under.ensures.under w.if-is_under.true))
      | else-is_under w ↦
          subst (IsLowestChord (n + 1) (weight_to a) (virtual_to a) c.args.first) (sym w.stop-is)
          (IsLowestChord-kept n (weight_to a) (virtual_to a) c.args.first c.loop-place.stop c.loop-place.invariant (c.is_under.ensures.above w.if-is_under.false))
    ]
