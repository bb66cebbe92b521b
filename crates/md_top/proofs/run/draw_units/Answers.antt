use Rattle.std.proofs.Common.{sym}
use Rattle.std.proofs.lemmas.Int.{to_z-of_z}
use mir.Syntax.{w128}
use Rattle.md_top.proofs.run.draw_units.Goals as goal

pub returns-in-Some : goal.returns-in-Some
returns-in-Some g c =
    let told = rw (to_z-of_z w128 c.args.number c.ranges.number) at c.in-Some.ensures in
    let first = to_z-of_z w128 c.args.first c.ranges.first in
    let second = to_z-of_z w128 c.args.second c.ranges.second in
    rw (told.0, sym told.1) (rw (first, second) at c.of_two.ensures)

pub returns-in-None : goal.returns-in-None
returns-in-None g c =
    let told = rw (to_z-of_z w128 c.args.number c.ranges.number) at c.in-None.ensures in
    rw told (c.of_none.ensures c.args.order.now.setting.now c.args.order.now.second.now (g.F.Shelf.content c.args.shelf.now) (g.F.Shelf.faults c.args.shelf.now))
