use Rattle.std.proofs.Common.{length}
use Rattle.md_tree.proofs.FixedRead.{AreFixed}
use Rattle.md_tree.proofs.fixed_pairs.read_fixed.Given as goal

abbrev pub invariant-loop-reader : goal.invariant-loop-reader
invariant-loop-reader l = AreFixed l.setting l.fn.reader l.reader l.least l.pairs

abbrev pub decreases-loop-reader : goal.decreases-loop-reader
decreases-loop-reader l = length l.reader.left
