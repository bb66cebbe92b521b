use mir.Syntax.{w128}
use Rattle.std.proofs.lemmas.Int.{to_z-of_z}
use Rattle.md_reduced.proofs.PointLaws.{interim-fits}
use Rattle.md_reduced.proofs.interim.interim_of.Goals as goal

pub returns-clause-fits : goal.returns-clause-fits
returns-clause-fits c =
    rw (to_z-of_z w128 c.args.den c.ranges.den, c.in_ok-odds.ensures.value, c.in_ok-pays.ensures)
    (interim-fits c.args.auction.now c.args.den c.args.point.now c.in_ok-odds.ensures.shaped c.requires.meets c.requires.sizes c.requires.den_size)
