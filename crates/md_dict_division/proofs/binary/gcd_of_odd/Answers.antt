use Rattle.std.proofs.Common.{◌∙◌, refl, sym}
use Rattle.md_dict_division.proofs.OddParts.{min-odd, IsGcd-step, IsGcd-end}
use Rattle.md_dict_division.proofs.binary.gcd_of_odd.Goals as goal

pub loop-difference-preserved : goal.loop-difference-preserved
loop-difference-preserved c =
    let l = c.loop-difference in (
      rw c.min-small.ensures (min-odd l.small l.part l.invariant.0 l.invariant.1),
      c.odd_gap-gap.ensures.odd,
      refl,
      λ g h. l.invariant.3 g (IsGcd-step l.small l.part c.odd_gap-gap.result g _ l.invariant.0 l.invariant.1 c.odd_gap-gap.ensures.value (rw c.min-small.ensures at h)),
    )

pub returns : goal.returns
returns c =
    let l = c.loop-difference in
    l.invariant.3 l.small (IsGcd-end l.small l.part l.auto.small-fits.fits l.auto.part-fits.fits (sym l.invariant.2 ∙ c.loop-difference-test.false))
