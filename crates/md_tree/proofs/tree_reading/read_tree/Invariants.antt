use Rattle.std.proofs.Common.{length}
use Rattle.md_tree.proofs.TreesRead.{AreRead}
use Rattle.md_tree.proofs.tree_reading.read_tree.Given as goal

abbrev pub invariant-loop-alloc : goal.invariant-loop-alloc
invariant-loop-alloc l = AreRead l.setting l.fn.reader l.reader l.walk l.tree

abbrev pub decreases-loop-alloc : goal.decreases-loop-alloc
decreases-loop-alloc l = length l.reader.left
