use Rattle.md_flow.specs.Tables.{flow_of}
use Rattle.md_flow.proofs.LabelLaws.{AreNodeLabels, AreDemandLabels, AreLabels-nodes, AreLabels-demands, AreRaised-round, distance-less}
use Rattle.md_flow.proofs.labels.Labels.renew.Goals as goal

pub rounds-smaller : goal.rounds-smaller
rounds-smaller c =
    let k : AreNodeLabels c.args.net.now (flow_of c.args.flow.now) c.rounds.self.demands.items c.raise_nodes.new.nodes.items = record { at = c.raise_nodes.ensures.labels } in
    let h = AreLabels-nodes c.args.net.now (flow_of c.args.flow.now) c.rounds.self.nodes.items c.raise_nodes.new.nodes.items c.rounds.self.demands.items c.rounds.invariant.labels c.raise_nodes.ensures.length k in
    let m : AreDemandLabels c.args.net.now (flow_of c.args.flow.now) c.raise_nodes.new.nodes.items c.raise_demands.new.demands.items = record { at = c.raise_demands.ensures.labels } in
    let w = c.raise_demands.ensures.changed c.if-not-raise_demands.false in
    distance-less c.args.net.now (flow_of c.args.flow.now) c.raise_nodes.new.nodes.items c.rounds.self.demands.items c.raise_demands.new.demands.items w.0 h m w.1 w.2

pub rounds-preserved : goal.rounds-preserved
rounds-preserved c =
    let k : AreNodeLabels c.args.net.now (flow_of c.args.flow.now) c.rounds.self.demands.items c.raise_nodes.new.nodes.items = record { at = c.raise_nodes.ensures.labels } in
    let h = AreLabels-nodes c.args.net.now (flow_of c.args.flow.now) c.rounds.self.nodes.items c.raise_nodes.new.nodes.items c.rounds.self.demands.items c.rounds.invariant.labels c.raise_nodes.ensures.length k in
    let m : AreDemandLabels c.args.net.now (flow_of c.args.flow.now) c.raise_nodes.new.nodes.items c.raise_demands.new.demands.items = record { at = c.raise_demands.ensures.labels } in
    record {
      labels = AreLabels-demands c.args.net.now (flow_of c.args.flow.now) c.raise_nodes.new.nodes.items c.rounds.self.demands.items c.raise_demands.new.demands.items h c.raise_demands.ensures.length m;
      raised = AreRaised-round c.args.net.now (flow_of c.args.flow.now) c.args.self.now.nodes.items c.rounds.self.nodes.items c.raise_nodes.new.nodes.items c.args.self.now.demands.items c.rounds.self.demands.items c.raise_demands.new.demands.items c.rounds.invariant.raised c.rounds.invariant.labels k h m;
    }
