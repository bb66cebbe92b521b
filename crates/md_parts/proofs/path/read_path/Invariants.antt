use Rattle.std.proofs.Common.{length}
use Rattle.md_parts.proofs.PathSteps.{IsWalked}
use Rattle.md_parts.proofs.path.read_path.Given as goal

abbrev pub invariant-loop-reader : goal.invariant-loop-reader
invariant-loop-reader l = IsWalked l.fn.reader l.reader l.path

abbrev pub decreases-loop-reader : goal.decreases-loop-reader
decreases-loop-reader l = length l.reader.left
