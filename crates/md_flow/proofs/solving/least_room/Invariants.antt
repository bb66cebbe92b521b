use Rattle.md_flow.specs.Paths.{room_left}
use Rattle.md_flow.specs.Tables.{flow_of}
use Rattle.md_flow.proofs.Bottlenecks.{IsLeast}
use Rattle.md_flow.proofs.solving.least_room.Given as goal

abbrev pub invariant-loop-j : goal.invariant-loop-j
invariant-loop-j l = IsLeast (room_left l.net (flow_of l.flow) l.path) l.j l.most l.least
