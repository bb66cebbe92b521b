use mir.Syntax.{w128}
use Rattle.std.proofs.lemmas.Int.{to_z-of_z}
use Rattle.md_cuts.proofs.AuctionPrograms.{meets-reduced, point-length}
use Rattle.md_units.proofs.unit_cuts.worst_of.Goals as goal

pub interim_of-requires-clause-one_each : goal.interim_of-requires-clause-one_each
interim_of-requires-clause-one_each c = point-length c.args.auction.now c.args.units c.args.den c.args.point.now c.requires.point

pub interim_of-requires-clause-meets : goal.interim_of-requires-clause-meets
interim_of-requires-clause-meets c = rw (to_z-of_z w128 c.args.den c.ranges.den) (meets-reduced c.args.auction.now c.args.units c.args.den c.args.point.now c.requires.point)

pub interim_of-requires-clause-sizes : goal.interim_of-requires-clause-sizes
interim_of-requires-clause-sizes c = c.requires.point.point_fits.sizes

pub interim_of-requires-clause-den_size : goal.interim_of-requires-clause-den_size
interim_of-requires-clause-den_size c = rw (to_z-of_z w128 c.args.den c.ranges.den) c.requires.point.den_fits.size
