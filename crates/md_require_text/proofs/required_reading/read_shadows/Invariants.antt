use Rattle.std.proofs.Common.{length}
use Rattle.md_require_text.proofs.ShadowLaws.{AreReadSoFar}
use Rattle.md_require_text.proofs.required_reading.read_shadows.Given as goal

abbrev pub invariant-loop-reader : goal.invariant-loop-reader
invariant-loop-reader l = AreReadSoFar l.count l.fn.reader l.reader l.shadows.items

abbrev pub decreases-loop-reader : goal.decreases-loop-reader
decreases-loop-reader l = length l.reader.left
