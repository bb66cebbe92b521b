use Rattle.std.proofs.Common.{refl, arith}
use Rattle.md_mech.proofs.WholeLaws.{not_both}
use Rattle.md_asym_sale.specs.Tested.{AreUtilitiesAt}
use Rattle.md_asym_sale.proofs.SaleLaws.{one-more}
use Rattle.md_asym_sale.proofs.sale.has_utilities.Goals as goal

pub returns-then-not-has_utilities_at : goal.returns-then-not-has_utilities_at
returns-then-not-has_utilities_at c = (λ h. not_both h, λ all. not_both (c.if-not-has_utilities_at.ensures.1 (all.each c.loop-rank.rank (omega (arith, c.loop-rank-test.true, c.profiles-rank-end.ensures.count)))))

pub returns : goal.returns
returns c = (λ h. record { each = λ k b. c.loop-rank.invariant k (omega (arith, b, c.loop-rank-test.false, c.profiles-rank-end.ensures.count)) }, λ all. refl)

pub loop-rank-preserved : goal.loop-rank-preserved
loop-rank-preserved c = one-more (AreUtilitiesAt c.args.setting.now) c.loop-rank.rank c.loop-rank.invariant (c.if-not-has_utilities_at.ensures.0 refl)
