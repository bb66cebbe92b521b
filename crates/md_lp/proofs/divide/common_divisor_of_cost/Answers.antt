use Rattle.std.proofs.Common.{◌≡◌, ◌^◌, to_z, of_z, lit<}
use mir.Syntax.{w128}
use Rattle.md_math.specs.Lists.{number_at}
use Rattle.md_math.proofs.Gcds.{IsGcdOf-more}
use Rattle.md_math.proofs.Bits.{read_within, read_result}
use Rattle.md_lp.proofs.divide.common_divisor_of_cost.Goals as goal

pub loop-number-preserved : goal.loop-number-preserved
loop-number-preserved c =
    let at = number_at c.args.cost.now in
    let i = c.loop-number.number-index in
    let back : to_z w128 (of_z w128 (at i)) ≡ at i = read_within (2 ^ 44) (at i) (c.requires.at i c.loop-number-test.true) (lit< tt) in
    let step = rw back at c.gcd-common.ensures.divisor in
    rw (read_result c.gcd-common.result c.gcd-common.type_inv) (record {
      divisor = IsGcdOf-more i at _ _ c.loop-number.invariant.divisor step;
      size = c.gcd-common.ensures.size;
    })
