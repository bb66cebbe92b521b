use Rattle.std.proofs.Common.{◌≡◌, ◌+◌, ◌*◌, ◌≤◌, pos, ◌+ℤ◌, ◌*ℤ◌, ◌≤ℤ◌, true, if◌then◌else◌, length, unsigned_abs}
use Rattle.md_flow.specs.Network.{node_count, demand_count}
use Rattle.md_flow.specs.Flows.{IsPartFlow}
use Rattle.md_flow.specs.Costs.{vertex_count, edge_count}
use Rattle.md_flow.specs.Labels.{AreLabels, AreReached}
use Rattle.md_flow.specs.Potential.{potential}
use Rattle.md_flow.specs.Tables.{flow_of}
use Rattle.md_flow.proofs.solving.send.Given as goal

abbrev pub invariant-turns : goal.invariant-turns
invariant-turns g l = record {
  nodes : l.flow.nodes ≡ node_count l.net;
  demands : l.flow.demands ≡ demand_count l.net;
  part : IsPartFlow l.net (flow_of l.flow);
  labels : AreLabels l.net (flow_of l.flow) l.labels.nodes.items l.labels.demands.items;
  reached : l.fresh ≡ true → AreReached l.net (flow_of l.flow) l.labels.nodes.items l.labels.demands.items;
  entries : length l.search.entries.items ≡ demand_count l.net;
  before : length l.search.before.items ≡ demand_count l.net;
  places : length l.search.places.items ≡ 144;
  counted : l.fn.steps ≤ l.steps;
  cost : (pos l.steps +ℤ potential l.net (flow_of l.flow) l.labels.nodes.items l.labels.demands.items) ≤ℤ (pos l.fn.steps +ℤ vertex_count l.net *ℤ edge_count l.net);
}

-- twice what is left of the potential, and one for old labels
abbrev pub decreases-turns : goal.decreases-turns
decreases-turns g l = 2 * unsigned_abs (potential l.net (flow_of l.flow) l.labels.nodes.items l.labels.demands.items) + (if l.fresh then 0 else 1)
