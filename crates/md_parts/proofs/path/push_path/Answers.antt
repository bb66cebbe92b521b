use Rattle.std.proofs.Common.{◌≡◌, ◌<◌, ◌^◌, get_or, pos, to_z, of_z, ◌∙◌, arith, SFits}
use Rattle.std.proofs.lemmas.Int.{to_z-of_z}
use mir.Syntax.{w128}
use Rattle.md_lp.specs.declared.pivot.Pivot.{Pivot}
use Rattle.md_parts.specs.Rows.{pivot_row}
use Rattle.md_parts.proofs.MadeRows.{mapped-more, pivots-more}
use Rattle.md_parts.proofs.path.push_path.Goals as goal

pub loop-pivot-preserved : goal.loop-pivot-preserved
loop-pivot-preserved c =
    let path = c.as_slice-pivot-items.result.now in
    let i = c.loop-pivot.pivot-index in
    let d : Pivot = record { row = 0; column = 0 } in
    let pivot = get_or path i d in
    let row_fits : SFits w128 c.from.result = record { sfits = c.from.type_inv } in
    let column_fits : SFits w128 c.from-in-loop-pivot.result = record { sfits = c.from-in-loop-pivot.type_inv } in
    let row : to_z w128 (of_z w128 c.from.result) ≡ pos pivot.row = to_z-of_z w128 c.from.result row_fits ∙ c.from.ensures in
    let column : to_z w128 (of_z w128 c.from-in-loop-pivot.result) ≡ pos pivot.column = to_z-of_z w128 c.from-in-loop-pivot.result column_fits ∙ c.from-in-loop-pivot.ensures in
    let one = rw (row, column) at c.in_ok-push_numbers.ensures.rows in
    let row_in : pivot.row < 2 ^ 32 = omega arith in
    let column_in : pivot.column < 2 ^ 32 = omega arith in
    record {
      written = mapped-more pivot_row c.args.to.now.items c.loop-pivot.to.items c.push_numbers.new.to.items path i d c.loop-pivot-test.true c.loop-pivot.invariant.written one;
      placed = pivots-more path i d c.loop-pivot-test.true c.loop-pivot.invariant.placed (record { row_in = row_in; column_in = column_in });
    }
