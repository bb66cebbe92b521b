use Rattle.std.proofs.Common.{◌≡◌, ◌+◌, length, to_z, subst, arith}
use mir.Syntax.{w128}
use Rattle.std.proofs.lemmas.Int.{to_z-of_z}
use Rattle.md_math.specs.Divisors.{IsGcdOf}
use Rattle.md_math.specs.Lists.{number_at}
use Rattle.md_math.proofs.Gcds.{IsGcdOf-none, IsGcdOf-more}
use Rattle.md_math.proofs.Bits.{read_result}
use Rattle.md_simplex.specs.Reading.{with_den}
use Rattle.md_simplex.proofs.Reduced.{with_den-more}
use Rattle.md_simplex.proofs.ReadSteps.{read_small}
use Rattle.md_simplex.proofs.reading.common_divisor.Goals as goal

pub loop-number-init : goal.loop-number-init
loop-number-init c =
    let f = with_den c.args.first (number_at c.args.numbers.now) in
    let step = rw (to_z-of_z w128 c.args.first c.ranges.first) at c.gcd-common.ensures.divisor in
    rw (to_z-of_z w128 c.args.first c.ranges.first, read_result c.gcd-common.result c.gcd-common.type_inv) (record {
      divisor = IsGcdOf-more 0 f _ _ (IsGcdOf-none f) step;
      size = c.gcd-common.ensures.size;
    })

pub loop-number-preserved : goal.loop-number-preserved
loop-number-preserved c =
    let i = c.loop-number.number-index in
    let f = with_den c.args.first (number_at c.args.numbers.now) in
    let item = number_at c.args.numbers.now i in
    let step = rw (read_small item (c.requires.sizes.at i c.loop-number-test.true), ← with_den-more c.args.first (number_at c.args.numbers.now) i) at c.gcd-common-in-loop-number.ensures.divisor in
    let before = rw (to_z-of_z w128 c.args.first c.ranges.first) at c.loop-number.invariant.divisor in
    rw (to_z-of_z w128 c.args.first c.ranges.first, read_result c.gcd-common-in-loop-number.result c.gcd-common-in-loop-number.type_inv) (record {
      divisor = IsGcdOf-more (i + 1) f _ _ before step;
      size = c.gcd-common-in-loop-number.ensures.size;
    })

pub returns : goal.returns
returns c =
    let i = c.loop-number.number-index in
    let f = with_den c.args.first (number_at c.args.numbers.now) in
    let whole = rw (to_z-of_z w128 c.args.first c.ranges.first) at c.loop-number.invariant.divisor in
    let count : i + 1 ≡ length c.args.numbers.now + 1 = omega (arith, c.loop-number.auto.number-index-end, c.loop-number-test.false) in
    subst (λ n. IsGcdOf n f (to_z w128 c.loop-number.common-bits)) count whole
