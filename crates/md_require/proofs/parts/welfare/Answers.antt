use Rattle.std.proofs.Common.{to_z, ◌+ℤ◌, ◌≤◌, ◌+◌, ◌∙◌, arith, sym, lit<}
use mir.Syntax.{w128}
use Rattle.md_math.specs.Sizes.{IsWithin}
use Rattle.md_math.proofs.SizeLaws.{IsWithin-+ℤ, fits_from_IsWithin}
use Rattle.md_math.proofs.SumLaws.{sum_to-more}
use Rattle.md_math.proofs.Bits.{read_result, read_within}
use Rattle.md_space.specs.Profiles.{profile_at}
use Rattle.md_setting.specs.Meaning.{sizes_of, utility_of}
use Rattle.md_require.proofs.PartSizes.{utilities-within}
use Rattle.md_require.proofs.parts.welfare.Goals as goal

pub overflow_add-sum : goal.overflow_add-sum
overflow_add-sum c =
    let s = c.args.setting.now in
    let few : c.loop-agent.agent ≤ 6 = omega (arith, c.agents-agent-end.ensures.count, c.agents-agent-end.ensures.space.few_agents) in
    let before : IsWithin 6000000 (to_z w128 c.loop-agent.sum-bits) = rw c.loop-agent.invariant (utilities-within s c.loop-agent.agent (profile_at (sizes_of s) c.args.rank) c.args.outcome c.space.ensures.shaped few) in
    rw (read_result c.utility-sum.result c.utility-sum.type_inv)
    (fits_from_IsWithin w128 (6000000 + 1000000) (to_z w128 c.loop-agent.sum-bits +ℤ c.utility-sum.result) (IsWithin-+ℤ 6000000 1000000 (to_z w128 c.loop-agent.sum-bits) c.utility-sum.result before c.utility-sum.ensures.size) (lit< tt))

pub loop-agent-preserved : goal.loop-agent-preserved
loop-agent-preserved c =
    let s = c.args.setting.now in
    let few : c.loop-agent.agent ≤ 6 = omega (arith, c.agents-agent-end.ensures.count, c.agents-agent-end.ensures.space.few_agents) in
    let before : IsWithin 6000000 (to_z w128 c.loop-agent.sum-bits) = rw c.loop-agent.invariant (utilities-within s c.loop-agent.agent (profile_at (sizes_of s) c.args.rank) c.args.outcome c.space.ensures.shaped few) in
    rw (read_result c.utility-sum.result c.utility-sum.type_inv)
    (read_within (6000000 + 1000000) (to_z w128 c.loop-agent.sum-bits +ℤ c.utility-sum.result) (IsWithin-+ℤ 6000000 1000000 (to_z w128 c.loop-agent.sum-bits) c.utility-sum.result before c.utility-sum.ensures.size) (lit< tt)
    ∙ (rw (c.loop-agent.invariant, c.utility-sum.ensures.value) (sym (sum_to-more c.loop-agent.agent (λ i. utility_of s i (profile_at (sizes_of s) c.args.rank) c.args.outcome)))))

pub returns-clause-size : goal.returns-clause-size
returns-clause-size c =
    let s = c.args.setting.now in
    let few : c.loop-agent.agent ≤ 6 = omega (arith, c.agents-agent-end.ensures.count, c.agents-agent-end.ensures.space.few_agents) in
    rw c.loop-agent.invariant (utilities-within s c.loop-agent.agent (profile_at (sizes_of s) c.args.rank) c.args.outcome c.space.ensures.shaped few)
