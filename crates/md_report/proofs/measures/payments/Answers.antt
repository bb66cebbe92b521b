use Rattle.std.proofs.Common.{◌≡◌, to_z, ◌+ℤ◌, ◌≤◌, ◌+◌, ◌*◌, ◌^◌, ◌∙◌, arith, sym, ap, lit<}
use mir.Syntax.{w128}
use Rattle.md_math.specs.Sizes.{IsWithin}
use Rattle.md_math.specs.Sums.{sum_to}
use Rattle.md_math.proofs.SizeLaws.{IsWithin-+ℤ, fits_from_IsWithin}
use Rattle.md_math.proofs.SumLaws.{sum_to-more}
use Rattle.md_math.proofs.Bits.{read_result, read_within}
use Rattle.md_space.specs.Profiles.{profile_at}
use Rattle.md_setting.specs.Meaning.{agent_count, sizes_of}
use Rattle.md_mech.specs.Mechanism.{pay_of}
use Rattle.md_mech.proofs.UtilityLaws.{agents_are}
use Rattle.md_report.proofs.MeasureLaws.{paid-within}
use Rattle.md_report.proofs.measures.payments.Goals as goal

pub overflow_add-sum : goal.overflow_add-sum
overflow_add-sum c =
    let s = c.args.setting.now in
    let few : c.loop-agent.agent ≤ 6 = omega (arith, c.agents-agent-end.ensures.count, c.agents-agent-end.ensures.space.few_agents) in
    let before : IsWithin (6 * 2 ^ 62) (to_z w128 c.loop-agent.sum-bits) =
    rw c.loop-agent.invariant (paid-within s c.args.mechanism.now c.loop-agent.agent (profile_at (sizes_of s) c.args.rank) c.requires.numbers few) in
    rw (read_result c.payment-sum.result c.payment-sum.type_inv)
    (fits_from_IsWithin w128 (6 * 2 ^ 62 + 2 ^ 62) (to_z w128 c.loop-agent.sum-bits +ℤ c.payment-sum.result) (IsWithin-+ℤ (6 * 2 ^ 62) (2 ^ 62) (to_z w128 c.loop-agent.sum-bits) c.payment-sum.result before c.payment-sum.ensures.size) (lit< tt))

pub loop-agent-preserved : goal.loop-agent-preserved
loop-agent-preserved c =
    let s = c.args.setting.now in
    let few : c.loop-agent.agent ≤ 6 = omega (arith, c.agents-agent-end.ensures.count, c.agents-agent-end.ensures.space.few_agents) in
    let before : IsWithin (6 * 2 ^ 62) (to_z w128 c.loop-agent.sum-bits) =
    rw c.loop-agent.invariant (paid-within s c.args.mechanism.now c.loop-agent.agent (profile_at (sizes_of s) c.args.rank) c.requires.numbers few) in
    rw (read_result c.payment-sum.result c.payment-sum.type_inv)
    (read_within (6 * 2 ^ 62 + 2 ^ 62) (to_z w128 c.loop-agent.sum-bits +ℤ c.payment-sum.result)
    (IsWithin-+ℤ (6 * 2 ^ 62) (2 ^ 62) (to_z w128 c.loop-agent.sum-bits) c.payment-sum.result before c.payment-sum.ensures.size) (lit< tt)
    ∙ rw (c.loop-agent.invariant, c.payment-sum.ensures.value) (sym (sum_to-more c.loop-agent.agent (λ i. pay_of s c.args.mechanism.now i (profile_at (sizes_of s) c.args.rank)))))

pub returns-clause-size : goal.returns-clause-size
returns-clause-size c =
    let s = c.args.setting.now in
    let few : c.loop-agent.agent ≤ 6 = omega (arith, c.agents-agent-end.ensures.count, c.agents-agent-end.ensures.space.few_agents) in
    rw c.loop-agent.invariant (paid-within s c.args.mechanism.now c.loop-agent.agent (profile_at (sizes_of s) c.args.rank) c.requires.numbers few)

pub returns-clause-value : goal.returns-clause-value
returns-clause-value c =
    let s = c.args.setting.now in
    let end : c.loop-agent.agent ≡ agent_count s =
    agents_are s c.loop-agent.agent c.space.result.now (omega (arith, c.agents-agent-end.ensures.count)) c.space.ensures.sizes in
    c.loop-agent.invariant ∙ ap (λ n. sum_to n (λ i. pay_of s c.args.mechanism.now i (profile_at (sizes_of s) c.args.rank))) end
