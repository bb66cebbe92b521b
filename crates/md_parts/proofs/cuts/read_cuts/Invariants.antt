use Rattle.std.proofs.Common.{length}
use Rattle.md_parts.proofs.CutSteps.{AreCutSoFar}
use Rattle.md_parts.proofs.cuts.read_cuts.Given as goal

abbrev pub invariant-loop-reader : goal.invariant-loop-reader
invariant-loop-reader l = AreCutSoFar l.kinds l.fn.reader l.reader l.sets

abbrev pub decreases-loop-reader : goal.decreases-loop-reader
decreases-loop-reader l = length l.reader.left
