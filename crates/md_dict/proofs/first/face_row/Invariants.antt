use Rattle.std.proofs.Common.{◌+◌}
use Rattle.md_dict.proofs.FaceRow.{IsMinusSum}
use Rattle.md_dict.proofs.first.face_row.Given as goal

abbrev pub invariant-loop-row : goal.invariant-loop-row
invariant-loop-row l = IsMinusSum l.kept (l.columns + 1) l.row l.face.items
