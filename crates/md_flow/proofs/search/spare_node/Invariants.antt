use Rattle.std.proofs.Common.{ℕ, ◌<◌, ◌≤◌, pos, ◌≤ℤ◌, ◌<ℤ◌}
use Rattle.md_flow.specs.Network.{room_of}
use Rattle.md_flow.specs.Labels.{spare_at}
use Rattle.md_flow.specs.Tables.{flow_of}
use Rattle.md_flow.proofs.search.spare_node.Given as goal

abbrev pub invariant-loop-node : goal.invariant-loop-node
invariant-loop-node l = (u : ℕ) → l.from ≤ u → u < l.node → flow_of l.flow u l.demand <ℤ room_of l.net u l.demand → spare_at l.net (flow_of l.flow) u ≤ℤ pos 0
