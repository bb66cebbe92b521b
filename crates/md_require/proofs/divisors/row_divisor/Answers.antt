use Rattle.std.proofs.Common.{◌^◌, ℤ, List, ◌∷◌, length, suc, lit≤, map}
use Rattle.std.proofs.lemmas.Int.{to_z-of_z}
use mir.Syntax.{w128}
use Rattle.md_math.specs.Lists.{number_at}
use Rattle.md_math.proofs.Bits.{read_result}
use Rattle.md_lp.specs.declared.row_kind.RowKind.TheVariants.{AtMost}
use Rattle.md_lp.specs.declared.term.Term.{Term}
use Rattle.md_lp.specs.Divided.{IsDivisorFor}
use Rattle.md_lp.proofs.Building.{IsDivisorFor-within}
use Rattle.md_forms.specs.Forms.{number_of}
use Rattle.md_require.proofs.DivisorLaws.{gcd-form}
use Rattle.md_require.proofs.divisors.row_divisor.Goals as goal

pub returns-clause-divisor : goal.returns-clause-divisor
returns-clause-divisor c = λ n form places written.
    let gcd = rw (to_z-of_z w128 c.args.right c.ranges.right) at c.common_divisor.ensures in
    let divides = rw (read_result c.common_divisor.result c.common_divisor.type_inv) at c.divisor_from.ensures in
    rw (read_result c.divisor_from.result c.divisor_from.type_inv)
    (divides (suc n) (number_of form) (gcd-form n form AtMost c.args.terms.now c.args.right places written c.common_divisor.result gcd))

pub returns-clause-size : goal.returns-clause-size
returns-clause-size c =
    let numbers : List ℤ = c.args.right ∷ map (λ (t : Term). t.value) c.args.terms.now in
    let gcd = rw (to_z-of_z w128 c.args.right c.ranges.right) at c.common_divisor.ensures in
    let divides = rw (read_result c.common_divisor.result c.common_divisor.type_inv) at c.divisor_from.ensures in
    let divisor : IsDivisorFor (length numbers) (number_at numbers) c.divisor_from.result = divides (length numbers) (number_at numbers) gcd in
    rw (read_result c.divisor_from.result c.divisor_from.type_inv) (IsDivisorFor-within (length numbers) (2 ^ 44) (number_at numbers) c.divisor_from.result divisor (lit≤ tt) c.requires.at)
