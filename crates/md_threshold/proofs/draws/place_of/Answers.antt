use Rattle.std.proofs.Common.{◌<◌, length, arith}
use Rattle.md_threshold.proofs.CountLaws.{room-left}
use Rattle.md_threshold.proofs.draws.place_of.Goals as goal

pub overflow_add-count : goal.overflow_add-count
overflow_add-count c =
    let inside : c.loop-place.place < length c.args.profile.now = omega (arith, c.loop-place-test.true, c.requires.bidder) in
    omega (arith, room-left _ _ _ _ c.loop-place.invariant inside c.requires.kinds.few)
