use Rattle.std.proofs.Common.{refl, arith}
use Rattle.md_mech.proofs.WholeLaws.{not_both}
use Rattle.md_asym_sale.proofs.sale.is_independent.Goals as goal

pub returns-then-not-is_independent_at : goal.returns-then-not-is_independent_at
returns-then-not-is_independent_at c = (λ h. not_both h, λ all. not_both (c.if-not-is_independent_at.ensures.1 (all.each c.loop-rank.rank (omega (arith, c.loop-rank-test.true, c.profiles-rank-end.ensures.count)))))

pub returns : goal.returns
returns c = (λ h. record { each = λ k b. c.loop-rank.invariant k (omega (arith, b, c.loop-rank-test.false, c.profiles-rank-end.ensures.count)) }, λ all. refl)
