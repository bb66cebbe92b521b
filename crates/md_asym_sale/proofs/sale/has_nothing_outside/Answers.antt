use Rattle.std.proofs.Common.{refl, arith}
use Rattle.md_mech.proofs.WholeLaws.{not_both}
use Rattle.md_asym_sale.specs.Tested.{HasNothing}
use Rattle.md_asym_sale.proofs.SaleLaws.{one-more}
use Rattle.md_asym_sale.proofs.sale.has_nothing_outside.Goals as goal

pub returns-then-not-agent_has_nothing_outside : goal.returns-then-not-agent_has_nothing_outside
returns-then-not-agent_has_nothing_outside c = (λ h. not_both h, λ all. not_both (c.if-not-agent_has_nothing_outside.ensures.1 (all.each c.loop-agent.agent (omega (arith, c.loop-agent-test.true, c.agents-agent-end.ensures.count)))))

pub returns : goal.returns
returns c = (λ h. record { each = λ k b. c.loop-agent.invariant k (omega (arith, b, c.loop-agent-test.false, c.agents-agent-end.ensures.count)) }, λ all. refl)

pub loop-agent-preserved : goal.loop-agent-preserved
loop-agent-preserved c = one-more (HasNothing c.args.setting.now) c.loop-agent.agent c.loop-agent.invariant (c.if-not-agent_has_nothing_outside.ensures.0 refl)
