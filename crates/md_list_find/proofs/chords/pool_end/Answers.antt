use Rattle.std.proofs.Common.{◌+◌, ◌<◌, ◌-◌, length, sym, subst, arith}
use Rattle.md_list.specs.ByRule.{IsPoolEnd}
use Rattle.md_list_gains.specs.Places.{weight_to, gain_to}
use Rattle.md_list_find.proofs.Searches.{pool-start, pool-kept, pool-moved}
use Rattle.md_list_find.proofs.chords.pool_end.Goals as goal
use Rattle.md_list_find.proofs.chords.pool_end.Goals.{then-is_lower, else-is_lower}

pub loop-place-init : goal.loop-place-init
loop-place-init c = pool-start (weight_to c.args.places.now) (gain_to c.args.places.now) c.args.first

pub loop-place-preserved : goal.loop-place-preserved
loop-place-preserved c =
    let places = c.args.places.now in
    let weight = weight_to places in
    let gain = gain_to places in
    let n = c.loop-place.place in
    let inside : n < length places - 1 = omega (arith, c.loop-place-test.true) in
    elim c.if-is_lower.branch [
      | then-is_lower w ↦
          subst (IsPoolEnd (n + 1) weight gain c.args.first) (sym w.stop-is)
          (pool-moved weight gain c.args.first n c.loop-place.stop (λ x l b. c.requires.curve.rising c.args.first x l (omega (arith, b, inside))) c.loop-place.invariant (c.is_lower.ensures.low w.if-is_lower.true))
      | else-is_lower w ↦
          subst (IsPoolEnd (n + 1) weight gain c.args.first) (sym w.stop-is)
          (pool-kept weight gain c.args.first n c.loop-place.stop c.loop-place.invariant (c.is_lower.ensures.high w.if-is_lower.false))
    ]
