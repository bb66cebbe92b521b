use Rattle.std.proofs.Common.{◌≡◌, ◌≤◌, take}
use Rattle.md_determ_node.specs.NodeProgram.{fixed_count}
use Rattle.md_tree.proofs.walking.fixed_count.Given as goal

abbrev pub invariant-loop-rank : goal.invariant-loop-rank
invariant-loop-rank l = record { counted : l.count ≡ fixed_count (take l.rank l.fixed); few : l.count ≤ l.rank }
