use Rattle.std.proofs.Common.{arith}
use Rattle.std.proofs.lemmas.Int.{ints}
use Rattle.md_flow.specs.Tables.{flow_of}
use Rattle.md_flow.proofs.Listed.{IsPartFlow-zero}
use Rattle.md_flow.proofs.Potential.{bound-nonneg}
use Rattle.md_flow.proofs.solving.solve.Goals as goal

pub returns-in_err-flow-clause-cost : goal.returns-in_err-flow-clause-cost
returns-in_err-flow-clause-cost g c = omega (arith, ints, bound-nonneg c.args.net.now)

pub send-requires-clause-part : goal.send-requires-clause-part
send-requires-clause-part g c = IsPartFlow-zero c.args.net.now (flow_of c.in_ok-flow.flow) c.start.ensures.net c.in_ok-flow.ensures.zero
