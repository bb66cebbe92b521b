use Rattle.std.proofs.Common.{arith}
use mir.Syntax.{w128}
use Rattle.std.proofs.lemmas.Int.{to_z-of_z}
use Rattle.md_math.specs.Lists.{number_at}
use Rattle.md_math.proofs.SizeLaws.{AllWithin-number_at}
use Rattle.md_mech.specs.Accepted.{number_limit}
use Rattle.md_rows.proofs.PointLaws.{accepted-mechanism}
use Rattle.md_rows.proofs.Law.{admits-mechanisms}
use Rattle.md_rows.proofs.mechanisms.mechanism_of.Goals as goal

pub returns-clause-admissible : goal.returns-clause-admissible
returns-clause-admissible c =
    let p = c.requires.meets in
    let den = to_z-of_z w128 c.args.den c.ranges.den in
    rw (den, c.in_ok-chances.ensures, c.in_ok-payments_of.ensures)
    (admits-mechanisms c.args.setting.now p.program p.is_program c.args.den (number_at c.args.point.now) p.meets)

pub returns-clause-accepted : goal.returns-clause-accepted
returns-clause-accepted c =
    let s = c.args.setting.now in
    let p = c.requires.meets in
    let den = to_z-of_z w128 c.args.den c.ranges.den in
    rw (den, c.in_ok-chances.ensures, c.in_ok-payments_of.ensures)
    (accepted-mechanism s c.args.den (number_at c.args.point.now) (admits-mechanisms s p.program p.is_program c.args.den (number_at c.args.point.now) p.meets).mechanism
    (λ j b. p.meets.point.nonneg j (omega (arith, b, p.is_program.columns))) (λ j. AllWithin-number_at number_limit c.args.point.now j c.requires.sizes) c.requires.den_size)
