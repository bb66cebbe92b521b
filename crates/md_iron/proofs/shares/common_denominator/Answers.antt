use Rattle.std.proofs.Common.{to_z, ◌-◌, ◌^◌, arith, lit<}
use Rattle.std.proofs.lemmas.Int.{ints}
use mir.Syntax.{w128}
use Rattle.md_math.proofs.Bits.{read_within}
use Rattle.md_iron.specs.Shares.{fraction_in, IsLeastFraction}
use Rattle.md_iron.proofs.ShareLaws.{IsLeastDenominatorOf-none, IsLeastDenominatorOf-more, no-denominator, read-den, where-none, where-some}
use Rattle.md_iron.proofs.shares.common_denominator.Goals as goal

pub loop-k-init : goal.loop-k-init
loop-k-init c = (IsLeastDenominatorOf-none c.args.fractions.now, record { within = omega (arith, ints) })

pub common_multiple-requires-clause-right : goal.common_multiple-requires-clause-right
common_multiple-requires-clause-right c =
    let here : IsLeastFraction (fraction_in c.args.fractions.now c.loop-k.k) = c.requires.at c.loop-k.k (omega (arith, c.loop-k-test.true)) in
    rw (read-den (fraction_in c.args.fractions.now c.loop-k.k) here) here.least.positive

pub common_multiple-requires-clause-right_size : goal.common_multiple-requires-clause-right_size
common_multiple-requires-clause-right_size c =
    let here : IsLeastFraction (fraction_in c.args.fractions.now c.loop-k.k) = c.requires.at c.loop-k.k (omega (arith, c.loop-k-test.true)) in
    rw (read-den (fraction_in c.args.fractions.now c.loop-k.k) here) here.den_size

pub returns-in_default : goal.returns-in_default
returns-in_default c = λ over short.
    let here : IsLeastFraction (fraction_in c.args.fractions.now c.loop-k.k) = c.requires.at c.loop-k.k (omega (arith, c.loop-k-test.true)) in
    no-denominator c.loop-k.k c.args.fractions.now (to_z w128 c.loop-k.over-bits) over c.loop-k.invariant.0 (omega (arith, c.loop-k-test.true))
    (where-none c.common_multiple.result _ _ c.in_default.is (rw (read-den (fraction_in c.args.fractions.now c.loop-k.k) here) at c.common_multiple.ensures)) short

pub loop-k-preserved : goal.loop-k-preserved
loop-k-preserved c =
    let here : IsLeastFraction (fraction_in c.args.fractions.now c.loop-k.k) = c.requires.at c.loop-k.k (omega (arith, c.loop-k-test.true)) in
    let next = where-some c.common_multiple.result c.in-Some.multiple _ _ c.in-Some.is (rw (read-den (fraction_in c.args.fractions.now c.loop-k.k) here) at c.common_multiple.ensures) in
    rw (read_within (2 ^ 62 - 1) c.in-Some.multiple next.1 (lit< tt))
    (IsLeastDenominatorOf-more c.loop-k.k c.args.fractions.now (to_z w128 c.loop-k.over-bits) c.in-Some.multiple c.loop-k.invariant.0 next.0, next.1)
