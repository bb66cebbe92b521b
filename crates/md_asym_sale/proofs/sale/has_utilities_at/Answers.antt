use Rattle.std.proofs.Common.{refl, arith}
use Rattle.md_mech.proofs.WholeLaws.{not_both}
use Rattle.md_asym_sale.specs.Tested.{AreUtilitiesOf}
use Rattle.md_asym_sale.proofs.SaleLaws.{one-more}
use Rattle.md_asym_sale.proofs.sale.has_utilities_at.Goals as goal

pub returns-then-not-has_utilities_of : goal.returns-then-not-has_utilities_of
returns-then-not-has_utilities_of c = (λ h. not_both h, λ all. not_both (c.if-not-has_utilities_of.ensures.1 (all.each c.loop-outcome.outcome (omega (arith, c.loop-outcome-test.true, c.outcomes-outcome-end.ensures.count)))))

pub returns : goal.returns
returns c = (λ h. record { each = λ k b. c.loop-outcome.invariant k (omega (arith, b, c.loop-outcome-test.false, c.outcomes-outcome-end.ensures.count)) }, λ all. refl)

pub loop-outcome-preserved : goal.loop-outcome-preserved
loop-outcome-preserved c = one-more (AreUtilitiesOf c.args.setting.now c.args.rank) c.loop-outcome.outcome c.loop-outcome.invariant (c.if-not-has_utilities_of.ensures.0 refl)
