use Rattle.md_math.proofs.Bits.{read_result}
use Rattle.md_flow.proofs.NetLaws.{cap-size}
use Rattle.md_flow.proofs.net.Net.cap.Goals as goal

pub returns-clause-size : goal.returns-clause-size
returns-clause-size c =
    rw (c.unsigned_abs.ensures.value, read_result c.get.result c.get.type_inv, c.get.ensures)
    (cap-size (record { caps = c.self.inside.caps; wants = c.self.inside.wants; rooms = c.self.inside.rooms }) c.args.node c.self.invariant (rw (← c.self.view_is) at c.requires))
