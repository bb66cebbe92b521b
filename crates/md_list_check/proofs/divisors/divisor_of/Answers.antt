use Rattle.std.proofs.Common.{FitsSigned, rules}
use Rattle.std.proofs.lemmas.Int.{to_z-of_z}
use mir.Syntax.{w64}
use Rattle.md_math.specs.Lists.{number_at}
use Rattle.md_math.proofs.Gcds.{IsGcdOf-more}
use Rattle.md_list_check.proofs.divisors.divisor_of.Goals as goal

pub loop-weight-preserved : goal.loop-weight-preserved
loop-weight-preserved c =
    let at = number_at c.args.weights.now in
    let i = c.loop-weight.weight-index in
    let fits : FitsSigned w64 (at i) = search rules in
    let step = rw (to_z-of_z w64 (at i) fits) at c.common_divisor-divisor.ensures in
    IsGcdOf-more i at _ _ c.loop-weight.invariant step
