use Rattle.std.proofs.Common.{◌≡◌, ℕ, ◌<◌, length}
use Rattle.md_flow.specs.Labels.{label_at}
use Rattle.md_flow.specs.Labels.{IsNodeLabel}
use Rattle.md_flow.specs.Tables.{flow_of}
use Rattle.md_flow.proofs.labels.raise_nodes.Given as goal

abbrev pub invariant-loop-node : goal.invariant-loop-node
invariant-loop-node l = record {
  length : length l.nodes.items ≡ length l.fn.nodes.items;
  labels : (u : ℕ) → u < l.node → IsNodeLabel l.net (flow_of l.flow) l.demands.items u (label_at l.nodes.items u);
}
