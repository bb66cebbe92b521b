use Rattle.std.proofs.Common.{rules, FitsSigned}
use Rattle.std.proofs.lemmas.Int.{to_z-of_z}
use mir.Syntax.{w128}
use Rattle.md_top.proofs.run.draw.Goals as goal

pub returns-in-Some : goal.returns-in-Some
returns-in-Some g c =
    let order = c.args.order.now in
    let number : FitsSigned w128 c.in-Some.number = search rules in
    let first : FitsSigned w128 order.first_draw = search rules in
    let second : FitsSigned w128 order.second_draw = search rules in
    rw c.in-Some.is
    (rw (to_z-of_z w128 c.in-Some.number number, to_z-of_z w128 order.first_draw first, to_z-of_z w128 order.second_draw second) at c.draw_units.ensures)
