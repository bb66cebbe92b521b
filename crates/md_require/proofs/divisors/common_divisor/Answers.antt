use Rattle.std.proofs.Common.{ℤ, ◌≡◌, ◌+◌, ◌^◌, List, ◌∷◌, length, get_or, to_z, lit<, map, subst, arith}
use mir.Syntax.{w128}
use Rattle.std.proofs.lemmas.Int.{to_z-of_z}
use Rattle.std.proofs.lemmas.List.{length-map}
use Rattle.md_math.specs.Divisors.{IsGcdOf}
use Rattle.md_math.specs.Lists.{number_at}
use Rattle.md_math.specs.Sizes.{IsWithin}
use Rattle.md_math.proofs.Gcds.{IsGcdOf-none, IsGcdOf-more}
use Rattle.md_math.proofs.Bits.{read_within, read_result}
use Rattle.md_lp.specs.declared.term.Term.{Term}
use Rattle.md_lp.specs.declared.row_kind.RowKind.TheVariants.{AtMost}
use Rattle.md_lp.proofs.SparseRows.{no_term}
use Rattle.md_lp.proofs.ShapeLaws.{number_at-term, value_sizes}
use Rattle.md_require.proofs.divisors.common_divisor.Goals as goal

pub loop-term-init : goal.loop-term-init
loop-term-init c =
    let numbers : List ℤ = c.args.right ∷ map (λ (t : Term). t.value) c.args.terms.now in
    let step = rw (to_z-of_z w128 c.args.right c.ranges.right) at c.gcd-common.ensures.divisor in
    rw (to_z-of_z w128 c.args.right c.ranges.right, read_result c.gcd-common.result c.gcd-common.type_inv) (record {
      divisor = IsGcdOf-more 0 (number_at numbers) _ _ (IsGcdOf-none (number_at numbers)) step;
      size = c.gcd-common.ensures.size;
    })

pub gcd-common-requires-in-loop-term-clause-right : goal.gcd-common-requires-in-loop-term-clause-right
gcd-common-requires-in-loop-term-clause-right c =
    let item = (get_or c.args.terms.now c.loop-term.term-index no_term).value in
    let small : IsWithin (2 ^ 44) item = value_sizes (2 ^ 44) (record { kind = AtMost; terms = c.args.terms.now; right = c.args.right }) c.requires c.loop-term.term-index no_term c.loop-term-test.true in
    rw (read_within (2 ^ 44) item small (lit< tt)) (omega (arith, small.within))

pub loop-term-preserved : goal.loop-term-preserved
loop-term-preserved c =
    let i = c.loop-term.term-index in
    let numbers : List ℤ = c.args.right ∷ map (λ (t : Term). t.value) c.args.terms.now in
    let item = (get_or c.args.terms.now i no_term).value in
    let small : IsWithin (2 ^ 44) item = value_sizes (2 ^ 44) (record { kind = AtMost; terms = c.args.terms.now; right = c.args.right }) c.requires i no_term c.loop-term-test.true in
    let step = rw (read_within (2 ^ 44) item small (lit< tt), ← number_at-term c.args.right c.args.terms.now i c.loop-term-test.true) at c.gcd-common-in-loop-term.ensures.divisor in
    let before = rw (to_z-of_z w128 c.args.right c.ranges.right) at c.loop-term.invariant.divisor in
    rw (to_z-of_z w128 c.args.right c.ranges.right, read_result c.gcd-common-in-loop-term.result c.gcd-common-in-loop-term.type_inv) (record {
      divisor = IsGcdOf-more (i + 1) (number_at numbers) _ _ before step;
      size = c.gcd-common-in-loop-term.ensures.size;
    })

pub returns : goal.returns
returns c =
    let i = c.loop-term.term-index in
    let numbers : List ℤ = c.args.right ∷ map (λ (t : Term). t.value) c.args.terms.now in
    let whole = rw (to_z-of_z w128 c.args.right c.ranges.right) at c.loop-term.invariant.divisor in
    let count : i + 1 ≡ length numbers = omega (arith, length-map c.args.terms.now (λ (t : Term). t.value), c.loop-term.auto.term-index-end, c.loop-term-test.false) in
    subst (λ n. IsGcdOf n (number_at numbers) (to_z w128 c.loop-term.common-bits)) count whole
