use mir.Syntax.{w128}
use Rattle.std.proofs.lemmas.Int.{to_z-of_z}
use Rattle.md_math.specs.Lists.{number_at}
use Rattle.md_cuts.proofs.AuctionPrograms.{meets-reduced, none-over, point-length, worst-of}
use Rattle.md_cuts.proofs.auction_cuts.worst_of.Goals as goal

pub interim_of-requires-clause-one_each : goal.interim_of-requires-clause-one_each
interim_of-requires-clause-one_each c = point-length c.args.auction.now 1 c.args.den c.args.point.now c.requires

pub interim_of-requires-clause-meets : goal.interim_of-requires-clause-meets
interim_of-requires-clause-meets c = rw (to_z-of_z w128 c.args.den c.ranges.den) (meets-reduced c.args.auction.now 1 c.args.den c.args.point.now c.requires)

pub interim_of-requires-clause-sizes : goal.interim_of-requires-clause-sizes
interim_of-requires-clause-sizes c = c.requires.point_fits.sizes

pub interim_of-requires-clause-den_size : goal.interim_of-requires-clause-den_size
interim_of-requires-clause-den_size c = rw (to_z-of_z w128 c.args.den c.ranges.den) c.requires.den_fits.size

pub returns-in-Table-clause-none_over : goal.returns-in-Table-clause-none_over
returns-in-Table-clause-none_over c =
    none-over c.args.auction.now c.args.den (number_at c.args.point.now)
    (rw (c.in-Table.is, c.in_ok-interim.ensures.value, to_z-of_z w128 c.args.den c.ranges.den) at c.in_ok-masses.ensures.none_over)

pub returns-in-Violated-clause-violated : goal.returns-in-Violated-clause-violated
returns-in-Violated-clause-violated c =
    worst-of c.args.auction.now c.args.den (number_at c.args.point.now) c.in-Violated.set
    (rw (c.in-Violated.is, c.in_ok-interim.ensures.value, to_z-of_z w128 c.args.den c.ranges.den) at c.in_ok-masses.ensures.violated)
