use Rattle.std.proofs.Common.{refl, arith}
use Rattle.md_mech.proofs.WholeLaws.{not_both}
use Rattle.md_asym_sale.proofs.sale.has_utilities_of.Goals as goal

pub returns-then-not-has_utility : goal.returns-then-not-has_utility
returns-then-not-has_utility c = (λ h. not_both h, λ all. not_both (c.if-not-has_utility.ensures.1 (all.each c.loop-agent.agent (omega (arith, c.loop-agent-test.true, c.agents-agent-end.ensures.count)))))

pub returns : goal.returns
returns c = (λ h. record { each = λ k b. c.loop-agent.invariant k (omega (arith, b, c.loop-agent-test.false, c.agents-agent-end.ensures.count)) }, λ all. refl)
