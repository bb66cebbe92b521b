use Rattle.std.proofs.Common.{to_z, ◌+ℤ◌, ◌≤◌, ◌+◌, ◌*◌, ◌^◌, ◌∙◌, arith, sym, lit<, mul-le-mul, le_refl}
use mir.Syntax.{w128}
use Rattle.md_math.specs.Sizes.{IsWithin}
use Rattle.md_math.proofs.SizeLaws.{IsWithin-wider, IsWithin-+ℤ, fits_from_IsWithin}
use Rattle.md_math.proofs.SumLaws.{sum_to-more}
use Rattle.md_math.proofs.Bits.{read_result, read_within}
use Rattle.md_space.specs.Profiles.{profile_at}
use Rattle.md_setting.specs.Meaning.{sizes_of}
use Rattle.md_mech.specs.Accepted.{number_limit}
use Rattle.md_mech.specs.Mechanism.{pay_of}
use Rattle.md_mech.proofs.UtilityLaws.{payments-within}
use Rattle.md_mech.proofs.utilities.payments.Goals as goal

pub overflow_add-sum : goal.overflow_add-sum
overflow_add-sum c =
    let s = c.args.setting.now in
    let few : c.loop-agent.agent ≤ 6 = omega (arith, c.agents-agent-end.ensures.count, c.agents-agent-end.ensures.space.few_agents) in
    let before : IsWithin (6 * number_limit) (to_z w128 c.loop-agent.sum-bits) =
    IsWithin-wider (c.loop-agent.agent * number_limit) (6 * number_limit) (to_z w128 c.loop-agent.sum-bits) (mul-le-mul few (le_refl number_limit))
    (rw c.loop-agent.invariant (payments-within s c.args.mechanism.now c.loop-agent.agent (profile_at (sizes_of s) c.args.rank) c.requires.accepted)) in
    rw (read_result c.payment-sum.result c.payment-sum.type_inv)
    (fits_from_IsWithin w128 (6 * number_limit + 2 ^ 62) (to_z w128 c.loop-agent.sum-bits +ℤ c.payment-sum.result) (IsWithin-+ℤ (6 * number_limit) (2 ^ 62) (to_z w128 c.loop-agent.sum-bits) c.payment-sum.result before c.payment-sum.ensures.size) (lit< tt))

pub loop-agent-preserved : goal.loop-agent-preserved
loop-agent-preserved c =
    let s = c.args.setting.now in
    let few : c.loop-agent.agent ≤ 6 = omega (arith, c.agents-agent-end.ensures.count, c.agents-agent-end.ensures.space.few_agents) in
    let before : IsWithin (6 * number_limit) (to_z w128 c.loop-agent.sum-bits) =
    IsWithin-wider (c.loop-agent.agent * number_limit) (6 * number_limit) (to_z w128 c.loop-agent.sum-bits) (mul-le-mul few (le_refl number_limit))
    (rw c.loop-agent.invariant (payments-within s c.args.mechanism.now c.loop-agent.agent (profile_at (sizes_of s) c.args.rank) c.requires.accepted)) in
    rw (read_result c.payment-sum.result c.payment-sum.type_inv)
    (read_within (6 * number_limit + 2 ^ 62) (to_z w128 c.loop-agent.sum-bits +ℤ c.payment-sum.result) (IsWithin-+ℤ (6 * number_limit) (2 ^ 62) (to_z w128 c.loop-agent.sum-bits) c.payment-sum.result before c.payment-sum.ensures.size) (lit< tt)
    ∙ (rw (c.loop-agent.invariant, c.payment-sum.ensures.value) (sym (sum_to-more c.loop-agent.agent (λ i. pay_of s c.args.mechanism.now i (profile_at (sizes_of s) c.args.rank))))))

pub returns-clause-size : goal.returns-clause-size
returns-clause-size c =
    let s = c.args.setting.now in
    let few : c.loop-agent.agent ≤ 6 = omega (arith, c.agents-agent-end.ensures.count, c.agents-agent-end.ensures.space.few_agents) in
    let before : IsWithin (6 * number_limit) (to_z w128 c.loop-agent.sum-bits) =
    IsWithin-wider (c.loop-agent.agent * number_limit) (6 * number_limit) (to_z w128 c.loop-agent.sum-bits) (mul-le-mul few (le_refl number_limit))
    (rw c.loop-agent.invariant (payments-within s c.args.mechanism.now c.loop-agent.agent (profile_at (sizes_of s) c.args.rank) c.requires.accepted)) in
    IsWithin-wider (6 * number_limit) (2 ^ 65) (to_z w128 c.loop-agent.sum-bits) (omega arith) before
