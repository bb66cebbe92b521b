use Rattle.std.proofs.Common.{to_z, ◌≡◌, ◌≤◌, ◌*ℤ◌, ◌∙◌, arith, sym}
use mir.Syntax.{w128}
use Rattle.md_math.proofs.SumLaws.{sum_to-more}
use Rattle.md_math.proofs.Bits.{read_result}
use Rattle.md_space.specs.Profiles.{profile_at}
use Rattle.md_setting.specs.Meaning.{agent_count, sizes_of}
use Rattle.md_mech.proofs.UtilityLaws.{agents_are}
use Rattle.md_mech.specs.Mechanism.{pay_of}
use Rattle.md_require.specs.Named.{named}
use Rattle.md_require.specs.Parts.{pay_part}
use Rattle.md_require.proofs.ToldSizes.{pays-within, partial-fits, step-fits}
use Rattle.md_require.proofs.told.pays_told.Goals as goal

pub add_product-sum-requires : goal.add_product-sum-requires
add_product-sum-requires c =
    let s = c.args.setting.now in
    let count : c.agents-agent-end.result ≡ agent_count s = agents_are s c.agents-agent-end.result _ c.agents-agent-end.ensures.count c.space.ensures.sizes in
    let few : c.loop-agent.agent ≤ 16 = omega (arith, c.agents-agent-end.ensures.count, c.agents-agent-end.ensures.space.few_agents) in
    rw (read_result c.scaled_pay-part.result c.scaled_pay-part.type_inv, read_result c.payment.result c.payment.type_inv)
    (step-fits (to_z w128 c.loop-agent.sum-bits) c.scaled_pay-part.result c.payment.result c.loop-agent.agent
    (rw c.loop-agent.invariant (pays-within s c.args.mechanism.now c.args.scaled.now.scale (named s c.args.scaled.now.amount) c.requires.scaled.narrow c.requires.accepted c.args.rank c.loop-agent.agent c.requires.rank_in (omega (arith, count))))
    few c.scaled_pay-part.ensures.size c.payment.ensures.size)

pub loop-agent-preserved : goal.loop-agent-preserved
loop-agent-preserved c =
    let s = c.args.setting.now in
    read_result c.add_product-sum.result c.add_product-sum.type_inv
    ∙ (rw (read_result c.scaled_pay-part.result c.scaled_pay-part.type_inv, read_result c.payment.result c.payment.type_inv, c.loop-agent.invariant, c.scaled_pay-part.ensures.value, c.payment.ensures.value) at c.add_product-sum.ensures.value)
    ∙ sym (sum_to-more c.loop-agent.agent (λ i. (c.args.scaled.now.scale *ℤ pay_part s (named s c.args.scaled.now.amount) c.args.rank i) *ℤ pay_of s c.args.mechanism.now i (profile_at (sizes_of s) c.args.rank)))

pub returns-clause-size : goal.returns-clause-size
returns-clause-size c =
    let s = c.args.setting.now in
    let count : c.agents-agent-end.result ≡ agent_count s = agents_are s c.agents-agent-end.result _ c.agents-agent-end.ensures.count c.space.ensures.sizes in
    let few : c.loop-agent.agent ≤ 16 = omega (arith, c.agents-agent-end.ensures.count, c.agents-agent-end.ensures.space.few_agents) in
    partial-fits (to_z w128 c.loop-agent.sum-bits) c.loop-agent.agent few
    (rw c.loop-agent.invariant (pays-within s c.args.mechanism.now c.args.scaled.now.scale (named s c.args.scaled.now.amount) c.requires.scaled.narrow c.requires.accepted c.args.rank c.loop-agent.agent c.requires.rank_in (omega (arith, count))))
