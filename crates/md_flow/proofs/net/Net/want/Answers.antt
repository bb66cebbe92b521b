use Rattle.md_math.proofs.Bits.{read_result}
use Rattle.md_flow.proofs.NetLaws.{want-size}
use Rattle.md_flow.proofs.net.Net.want.Goals as goal

pub returns-clause-size : goal.returns-clause-size
returns-clause-size c =
    rw (c.unsigned_abs.ensures.value, read_result c.get.result c.get.type_inv, c.get.ensures)
    (want-size (record { caps = c.self.inside.caps; wants = c.self.inside.wants; rooms = c.self.inside.rooms }) c.args.demand c.self.invariant (rw (← c.self.view_is) at c.requires))
