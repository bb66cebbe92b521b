use Rattle.std.proofs.Common.{rules, FitsSigned}
use Rattle.std.proofs.lemmas.Int.{to_z-of_z}
use mir.Syntax.{w128}
use Rattle.md_top.proofs.run.run.Goals as goal

pub returns-in-Rows : goal.returns-in-Rows
returns-in-Rows g c = rw c.in-Rows.is (c.of_one.ensures c.args.order.now.second.now)

pub returns-in-Solve : goal.returns-in-Solve
returns-in-Solve g c = rw c.in-Solve.is (c.of_one-in-Solve.ensures c.args.order.now.second.now)

pub returns-in-Fair : goal.returns-in-Fair
returns-in-Fair g c = rw c.in-Fair.is (c.of_one-in-Fair.ensures c.args.order.now.second.now)

pub returns-in-Find : goal.returns-in-Find
returns-in-Find g c = rw c.in-Find.is c.find.ensures

pub returns-in-FindFair : goal.returns-in-FindFair
returns-in-FindFair g c = rw c.in-FindFair.is (c.of_one-in-FindFair.ensures c.args.order.now.second.now)

pub returns-in-Asym : goal.returns-in-Asym
returns-in-Asym g c = rw c.in-Asym.is (c.of_one-in-Asym.ensures c.args.order.now.second.now)

pub returns-in-Units : goal.returns-in-Units
returns-in-Units g c =
    let number = c.args.order.now.number in
    let fits : FitsSigned w128 number = search rules in
    rw c.in-Units.is (rw (to_z-of_z w128 number fits) at (c.sell_units.ensures c.args.order.now.second.now))

pub returns-in-Threshold : goal.returns-in-Threshold
returns-in-Threshold g c =
    let number = c.args.order.now.number in
    let fits : FitsSigned w128 number = search rules in
    rw c.in-Threshold.is (rw (to_z-of_z w128 number fits) at (c.sell_to_winners.ensures c.args.order.now.second.now))

pub returns-in-Award : goal.returns-in-Award
returns-in-Award g c =
    let number = c.args.order.now.number in
    let draw = c.args.order.now.first_draw in
    let fits : FitsSigned w128 number = search rules in
    let draw_fits : FitsSigned w128 draw = search rules in
    rw c.in-Award.is (rw (to_z-of_z w128 number fits, to_z-of_z w128 draw draw_fits) at (c.award.ensures c.args.order.now.second.now))

pub returns-in-Determ : goal.returns-in-Determ
returns-in-Determ g c = rw c.in-Determ.is (c.of_one-in-Determ.ensures c.args.order.now.second.now)

pub returns-in-Iron : goal.returns-in-Iron
returns-in-Iron g c = rw c.in-Iron.is (c.of_one-in-Iron.ensures c.args.order.now.second.now)

pub returns-in-IronUnits : goal.returns-in-IronUnits
returns-in-IronUnits g c =
    let number = c.args.order.now.number in
    let fits : FitsSigned w128 number = search rules in
    rw c.in-IronUnits.is (rw (to_z-of_z w128 number fits) at (c.iron_units.ensures c.args.order.now.second.now))

pub returns-in-Make : goal.returns-in-Make
returns-in-Make g c =
    let number = c.args.order.now.number in
    let fits : FitsSigned w128 number = search rules in
    rw c.in-Make.is
    (rw (to_z-of_z w128 number fits) at
    (c.of_none.ensures c.args.order.now.setting.now c.args.order.now.second.now (g.F.Shelf.content c.args.shelf.now) (g.F.Shelf.faults c.args.shelf.now)))

pub returns-in-Drill : goal.returns-in-Drill
returns-in-Drill g c =
    let number = c.args.order.now.number in
    let fits : FitsSigned w128 number = search rules in
    rw c.in-Drill.is
    (rw (to_z-of_z w128 number fits) at
    (c.of_none-in-Drill.ensures c.args.order.now.setting.now c.args.order.now.second.now (g.F.Shelf.content c.args.shelf.now) (g.F.Shelf.faults c.args.shelf.now)))
