use Rattle.std.proofs.Common.{◌^◌, ◌≤◌, arith, lit≤}
use Rattle.md_math.proofs.SizeLaws.{AllWithin-wider}
use Rattle.md_lp.specs.Program.{row_count}
use Rattle.md_lp.proofs.ColumnRuns.{AreSumsSoFar-within}
use Rattle.md_lp.proofs.lp.Lp.column_sums.Goals as goal

pub add_row-requires-clause-room : goal.add_row-requires-clause-room
add_row-requires-clause-room c =
    let inside : c.loop-row.row ≤ row_count c.args.self.now = omega (arith, c.rows-row-end.ensures.value) in
    AllWithin-wider (2 ^ 119) (2 ^ 124) c.loop-row.sums (lit≤ tt) (AreSumsSoFar-within c.args.self.now c.args.numbers.now c.args.first c.loop-row.row c.loop-row.sums c.rows-row-end.ensures.shaped c.requires.sizes inside c.loop-row.invariant)

pub returns-clause-size : goal.returns-clause-size
returns-clause-size c =
    let inside : c.loop-row.row ≤ row_count c.args.self.now = omega (arith, c.rows-row-end.ensures.value, c.loop-row.auto.row-end) in
    AreSumsSoFar-within c.args.self.now c.args.numbers.now c.args.first c.loop-row.row c.loop-row.sums c.rows-row-end.ensures.shaped c.requires.sizes inside c.loop-row.invariant
