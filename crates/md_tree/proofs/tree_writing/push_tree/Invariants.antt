use Rattle.md_tree.proofs.TreesPushed.{ArePushed}
use Rattle.md_tree.proofs.tree_writing.push_tree.Given as goal

abbrev pub invariant-loop-place : goal.invariant-loop-place
invariant-loop-place l = ArePushed l.setting l.fn.to.items l.to.items l.walk l.tree l.place
