use Rattle.std.proofs.Common.{◌-◌, ◌^◌, ℤ, length, ap, arith, lit<, length-append}
use Rattle.std.proofs.lemmas.Int.{to_z-of_z}
use mir.Syntax.{w128}
use Rattle.md_math.proofs.Bits.{read_within}
use Rattle.md_iron.proofs.ShareLaws.{AreShares-no, AreShares-push, where-none, where-some}
use Rattle.md_iron.proofs.shares.shares.Goals as goal

pub share-requires-clause-fraction : goal.share-requires-clause-fraction
share-requires-clause-fraction c = c.requires.fractions.at c.loop-k.k (omega (arith, c.loop-k-test.true))

pub share-requires-clause-divides : goal.share-requires-clause-divides
share-requires-clause-divides c = rw (to_z-of_z w128 c.args.over c.ranges.over) (c.requires.over.multiple c.loop-k.k (omega (arith, c.loop-k-test.true)))

pub returns-in_default-clause-shares : goal.returns-in_default-clause-shares
returns-in_default-clause-shares c =
    AreShares-no c.loop-k.k c.args.fractions.now c.args.over (omega (arith, c.loop-k-test.true))
    (where-none c.share.result _ _ c.in_default.is (rw (to_z-of_z w128 c.args.over c.ranges.over) at c.share.ensures))

pub loop-k-preserved : goal.loop-k-preserved
loop-k-preserved c =
    let is = where-some c.share.result c.in-Some.number _ _ c.in-Some.is (rw (to_z-of_z w128 c.args.over c.ranges.over) at c.share.ensures) in
    let pushed = rw (read_within (2 ^ 62 - 1) c.in-Some.number is.short (lit< tt)) at c.in_ok-push.ensures.ok in (
      omega (arith, c.loop-k.invariant.0, ap length pushed, length-append {A = ℤ}),
      rw (to_z-of_z w128 c.args.over c.ranges.over)
          (AreShares-push c.loop-k.k c.args.fractions.now c.args.over c.loop-k.main c.push.new.self c.in-Some.number c.loop-k.invariant.0 pushed (rw (to_z-of_z w128 c.args.over c.ranges.over) at c.loop-k.invariant.1) is),
    )
