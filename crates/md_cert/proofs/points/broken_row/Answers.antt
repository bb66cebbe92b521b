use Rattle.std.proofs.Common.{◌≡◌, to_z, of_z, arith}
use mir.Syntax.{w128}
use Rattle.std.proofs.lemmas.Int.{to_z-of_z}
use Rattle.md_math.specs.Lists.{number_at}
use Rattle.md_math.proofs.FirstFailures.{HoldsBelow-more}
use Rattle.md_lp.specs.Point.{MeetsRow}
use Rattle.md_cert.proofs.Rows.{BreaksRow-first}
use Rattle.md_cert.proofs.points.broken_row.Goals as goal

pub returns-in-Some : goal.returns-in-Some
returns-in-Some c =
    let den : to_z w128 (of_z w128 c.args.den) ≡ c.args.den = to_z-of_z w128 c.args.den c.ranges.den in
    BreaksRow-first c.args.lp.now c.args.den (number_at c.args.point.now) c.loop-row.row c.in-Some.broken (omega (arith, c.rows-row-end.ensures.value)) (rw den at c.loop-row.invariant) (rw den at c.in-Some.ensures)

pub loop-row-preserved : goal.loop-row-preserved
loop-row-preserved c =
    let den : to_z w128 (of_z w128 c.args.den) ≡ c.args.den = to_z-of_z w128 c.args.den c.ranges.den in
    rw den (HoldsBelow-more (MeetsRow c.args.lp.now c.args.den (number_at c.args.point.now)) c.loop-row.row (rw den at c.loop-row.invariant) (rw den at c.in_default.ensures))
