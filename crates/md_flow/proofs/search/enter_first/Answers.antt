use Rattle.std.proofs.Common.{◌<◌, arith}
use Rattle.md_flow.specs.Tables.{flow_of}
use Rattle.md_flow.specs.Network.{node_count}
use Rattle.md_flow.proofs.SearchLaws.{AreEntries-first}
use Rattle.md_flow.proofs.search.enter_first.Goals as goal

pub returns-then-node-nodes-clause-entries : goal.returns-then-node-nodes-clause-entries
returns-then-node-nodes-clause-entries c =
    let inside : c.spare_node-node.result < node_count c.args.net.now = omega (arith, c.if-node-nodes.true, c.nodes-nodes.ensures.value) in
    AreEntries-first c.args.net.now (flow_of c.args.flow.now) c.args.labels.now.items c.args.search.now.entries.items c.args.search.now.before.items c.args.demand c.spare_node-node.result c.requires.entries c.requires.demand c.requires.label inside (c.spare_node-node.ensures.room inside) (c.spare_node-node.ensures.spare inside)
