use Rattle.md_dict.proofs.FaceRow.{AreLess}
use Rattle.md_dict.proofs.first.subtract_row.Given as goal

abbrev pub invariant-loop-place : goal.invariant-loop-place
invariant-loop-place l = AreLess l.kept l.start l.place l.fn.sums l.sums
