use Rattle.std.proofs.Common.{◌+◌, ◌-◌, ◌<◌, arith}
use Rattle.md_flow.specs.Paths.{last_of, node_at, demand_at, room_left}
use Rattle.md_flow.specs.Tables.{flow_of}
use Rattle.md_flow.proofs.Bottlenecks.{IsLeast-more, left_read}
use Rattle.md_flow.proofs.solving.least_room.Goals as goal

pub loop-j-preserved : goal.loop-j-preserved
loop-j-preserved c =
    let inside : c.loop-j.j < last_of c.args.path.now + 1 = omega (arith, c.requires.path.route.whole) in
    let left = left_read c.args.net.now (flow_of c.args.flow.now) (node_at c.args.path.now c.loop-j.j) (demand_at c.args.path.now c.loop-j.j) c.number-node.result c.number-demand.result c.room.result c.amount_at.result c.number-node.ensures c.number-demand.ensures c.room.ensures c.amount_at.ensures.value (c.requires.path.rooms c.loop-j.j (omega (arith, inside))) in
    IsLeast-more (room_left c.args.net.now (flow_of c.args.flow.now) c.args.path.now) c.loop-j.j c.args.most c.loop-j.least (c.room.result - c.amount_at.result) c.lesser-least.result c.loop-j.invariant left.1 left.2 c.lesser-least.ensures

pub returns-clause-fits : goal.returns-clause-fits
returns-clause-fits c = record { rooms = λ j b. c.loop-j.invariant.at_most j (omega (arith, c.requires.path.route.whole, b)) }
