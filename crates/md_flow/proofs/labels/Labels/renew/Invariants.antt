use Rattle.std.proofs.Common.{unsigned_abs}
use Rattle.md_flow.specs.Labels.{AreLabels, AreRaised}
use Rattle.md_flow.specs.Tables.{flow_of}
use Rattle.md_flow.proofs.LabelLaws.{distance}
use Rattle.md_flow.proofs.labels.Labels.renew.Given as goal

abbrev pub invariant-rounds : goal.invariant-rounds
invariant-rounds l = record {
  labels : AreLabels l.net (flow_of l.flow) l.self.nodes.items l.self.demands.items;
  raised : AreRaised l.net l.fn.self.nodes.items l.self.nodes.items l.fn.self.demands.items l.self.demands.items;
}

abbrev pub decreases-rounds : goal.decreases-rounds
decreases-rounds l = unsigned_abs (distance l.net l.self.demands.items)
