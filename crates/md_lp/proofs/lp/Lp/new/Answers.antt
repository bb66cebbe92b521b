use Rattle.std.proofs.Common.{◌^◌, length}
use Rattle.md_math.specs.Lists.{number_at}
use Rattle.md_math.specs.Sizes.{AllWithin}
use Rattle.md_math.proofs.Bits.{read_result}
use Rattle.md_lp.proofs.Dividing.{IsDivisorFor-divides}
use Rattle.md_lp.proofs.Building.{IsShaped-new, HasDividedCost-new}
use Rattle.md_lp.proofs.lp.Lp.new.Goals as goal

pub divided_numbers-requires-clause-exact : goal.divided_numbers-requires-clause-exact
divided_numbers-requires-clause-exact c =
    let divisor = rw c.as_slice.ensures at c.cost_divisor-factor.ensures in
    rw (c.as_slice-2.ensures, read_result c.cost_divisor-factor.result c.cost_divisor-factor.type_inv)
    (λ k b. IsDivisorFor-divides (length c.args.cost) (number_at c.args.cost) c.cost_divisor-factor.result divisor k b)

pub invariant_of-result : goal.invariant_of-result
invariant_of-result c =
    let factor = read_result c.cost_divisor-factor.result c.cost_divisor-factor.type_inv in
    let divisor = rw c.as_slice.ensures at c.cost_divisor-factor.ensures in
    let divided = rw (factor, c.as_slice-2.ensures) at c.in_ok-divided.ensures in
    let small : AllWithin (2 ^ 44) c.args.cost = c.cost_is_small.ensures.0 c.if-not-cost_is_small.false in
    rw (factor, c.new.ensures.items) (IsShaped-new c.args.columns c.args.cost c.in_ok-divided.divided c.cost_divisor-factor.result c.requires.columns c.requires.one_each small divisor divided)

pub returns-clause-ok : goal.returns-clause-ok
returns-clause-ok c =
    let factor = read_result c.cost_divisor-factor.result c.cost_divisor-factor.type_inv in
    let divisor = rw c.as_slice.ensures at c.cost_divisor-factor.ensures in
    let divided = rw (factor, c.as_slice-2.ensures) at c.in_ok-divided.ensures in
    rw (factor, c.new.ensures.items) (HasDividedCost-new c.args.columns c.args.cost c.in_ok-divided.divided c.cost_divisor-factor.result c.requires.one_each divisor divided)
