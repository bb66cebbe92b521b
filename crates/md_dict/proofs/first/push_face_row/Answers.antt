use Rattle.std.proofs.Common.{◌≡◌, ◌+◌, ◌*◌, ◌++◌, length, ◌∙◌, ap}
use Rattle.md_lp.specs.Program.{row_count}
use Rattle.md_dict.specs.FirstTable.{column_count}
use Rattle.md_dict.proofs.FaceRow.{with_face}
use Rattle.md_dict.proofs.first.push_face_row.Goals as goal

pub returns-clause-built : goal.returns-clause-built
returns-clause-built c =
    let p = c.args.lp.now in
    let items : c.extend_from_slice.new.self.items ≡ c.args.kept.now.items ++ c.in_ok-face.face.items = c.in_ok-extend_from_slice.ensures.items ∙ ap (λ xs. c.args.kept.now.items ++ xs) c.as_slice-2.ensures.value in
    let kept : length c.args.kept.now.items ≡ row_count p * (column_count p + 1) = rw c.requires.columns at c.requires.length in
    let face : length c.in_ok-face.face.items ≡ column_count p + 1 = rw c.requires.columns at c.in_ok-face.ensures.length in
    let sums = rw (c.requires.columns, c.rows.ensures.value, c.as_slice.ensures.value) at c.in_ok-face.ensures.value in
    rw items (with_face p c.args.kept.now.items c.in_ok-face.face.items c.requires.built kept face sums)
