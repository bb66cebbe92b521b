use Rattle.std.proofs.Common.{◌<◌, ◌^◌, arith, unsigned_abs}
use Rattle.std.specs.Int.{IsGcd}
use Rattle.std.proofs.lemmas.Int.{ints, to_z_pos, to_z-of_z}
use mir.Syntax.{w128}
use Rattle.md_math.proofs.Gcds.{IsGcdOfTwo-from_IsGcd, size_of_gcd}
use Rattle.md_num.proofs.division.gcd.Goals as goal
use Rattle.md_num.proofs.division.gcd.Goals.{After-gcd_of_sizes}

-- what was computed is the gcd of the two sizes
of_sizes : (c : After-gcd_of_sizes) → IsGcd (unsigned_abs c.args.a) (unsigned_abs c.args.b) c.gcd_of_sizes.result
of_sizes c =
    let a = to_z-of_z w128 c.args.a c.ranges.a in
    let b = to_z-of_z w128 c.args.b c.ranges.b in
    rw (c.unsigned_abs.ensures.value, c.unsigned_abs-2.ensures.value, a, b) at c.gcd_of_sizes.ensures

small : (c : After-gcd_of_sizes) → c.gcd_of_sizes.result < 2 ^ 126
small c = size_of_gcd (unsigned_abs c.args.a) (unsigned_abs c.args.b) c.gcd_of_sizes.result (2 ^ 126) c.requires.left c.requires.right (of_sizes c)

pub overflow_cast-result : goal.overflow_cast-result
overflow_cast-result c = omega (arith, ints, small c)

pub returns-clause-divisor : goal.returns-clause-divisor
returns-clause-divisor c = rw (to_z_pos w128 c.gcd_of_sizes.result (omega (arith, small c))) (IsGcdOfTwo-from_IsGcd c.args.a c.args.b c.gcd_of_sizes.result (of_sizes c))

pub returns-clause-size : goal.returns-clause-size
returns-clause-size c = omega (arith, ints, small c)
