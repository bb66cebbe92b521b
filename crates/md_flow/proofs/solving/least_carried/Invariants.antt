use Rattle.md_flow.specs.Paths.{amount_before}
use Rattle.md_flow.specs.Tables.{flow_of}
use Rattle.md_flow.proofs.Bottlenecks.{IsLeast}
use Rattle.md_flow.proofs.solving.least_carried.Given as goal

abbrev pub invariant-loop-j : goal.invariant-loop-j
invariant-loop-j l = IsLeast (amount_before (flow_of l.flow) l.path) l.j l.most l.least
