use Rattle.md_flow.specs.Tables.{flow_of}
use Rattle.md_flow.proofs.LabelLaws.{IsDemandLabelBelow}
use Rattle.md_flow.proofs.labels.demand_label.Given as goal

abbrev pub invariant-loop-node : goal.invariant-loop-node
invariant-loop-node l = IsDemandLabelBelow l.net (flow_of l.flow) l.nodes.items l.demand l.node l.label
