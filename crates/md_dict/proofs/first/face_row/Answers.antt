use Rattle.std.proofs.Common.{◌≡◌, ◌+◌, length, ap, sym, ◌∙◌, subst, arith}
use Rattle.md_dict.proofs.FaceRow.{IsMinusSum, IsMinusSum-more, row_small, written_back}
use Rattle.md_dict.proofs.first.face_row.Goals as goal

pub subtract_row-requires-clause-numbers : goal.subtract_row-requires-clause-numbers
subtract_row-requires-clause-numbers c = λ s b.
    row_small c.args.kept.now (c.args.columns + 1) c.args.rows c.loop-row.row c.loop-row-test.true c.requires.size s (omega (arith, c.loop-row.invariant.long, c.as_mut_slice.ensures.len))

pub loop-row-preserved : goal.loop-row-preserved
loop-row-preserved c =
    let sums : length c.subtract_row.new.sums ≡ c.loop-row.face.len = c.subtract_row.ensures.length ∙ c.as_mut_slice.ensures.len in
    let items : length c.loop-row.face.items ≡ c.loop-row.face.len = ap length (sym c.as_mut_slice.ensures.value) ∙ c.as_mut_slice.ensures.len in
    let before : IsMinusSum c.args.kept.now (c.args.columns + 1) c.loop-row.row c.as_mut_slice.result.now = subst (IsMinusSum c.args.kept.now (c.args.columns + 1) c.loop-row.row) (sym c.as_mut_slice.ensures.value) c.loop-row.invariant in
    let small = row_small c.args.kept.now (c.args.columns + 1) c.args.rows c.loop-row.row c.loop-row-test.true c.requires.size in
    rw (written_back c.loop-row.face.len c.subtract_row.new.sums c.loop-row.face.items sums items)
    (IsMinusSum-more c.args.kept.now (c.args.columns + 1) c.loop-row.row c.as_mut_slice.result.now c.subtract_row.new.sums before c.subtract_row.ensures.length c.subtract_row.ensures.value small)
