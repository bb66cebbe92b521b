use Rattle.std.proofs.Common.{◌+◌, sym, subst}
use Rattle.md_list.specs.ByRule.{IsReserve}
use Rattle.md_list_gains.specs.Places.{gain_to, benefit_to}
use Rattle.md_list_find.proofs.Searches.{reserve-start, reserve-kept, reserve-moved}
use Rattle.md_list_find.proofs.chords.reserve.Goals as goal
use Rattle.md_list_find.proofs.chords.reserve.Goals.{then-is_no_higher, else-is_no_higher}

pub loop-place-init : goal.loop-place-init
loop-place-init c = reserve-start (gain_to c.args.places.now) (benefit_to c.args.places.now)

pub loop-place-preserved : goal.loop-place-preserved
loop-place-preserved c =
    let gain = gain_to c.args.places.now in
    let benefit = benefit_to c.args.places.now in
    let n = c.loop-place.place in
    elim c.if-is_no_higher.branch [
      | then-is_no_higher w ↦
          subst (IsReserve (n + 1) gain benefit) (sym w.lowest-is) (reserve-moved n gain benefit c.loop-place.lowest c.loop-place.invariant (c.is_no_higher.ensures.low w.if-is_no_higher.true))
      | else-is_no_higher w ↦
          subst (IsReserve (n + 1) gain benefit) (sym w.lowest-is) (reserve-kept n gain benefit c.loop-place.lowest c.loop-place.invariant (c.is_no_higher.ensures.high w.if-is_no_higher.false))
    ]
