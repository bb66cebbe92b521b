use Rattle.std.proofs.Common.{◌≡◌, pos, arith}
use Rattle.std.proofs.lemmas.Int.{ints}
use Rattle.md_lp.proofs.Dividing.{IsDivisorFor-zero}
use Rattle.md_require.proofs.divisors.divisor_from.Goals as goal

pub returns-then-common-eq0 : goal.returns-then-common-eq0
returns-then-common-eq0 c n f h =
    let zero : c.args.common ≡ pos 0 = grind (arith, ints) in
    IsDivisorFor-zero n f c.args.common h zero
