use Rattle.std.proofs.Common.{◌≡◌, to_z, ◌+ℤ◌, ◌≤◌, ◌+◌, ◌*◌, ◌^◌, ◌∙◌, arith, sym, ap, lit<, length}
use Rattle.std.proofs.lemmas.List.{length-map}
use mir.Syntax.{w128}
use Rattle.md_math.specs.Sizes.{IsWithin}
use Rattle.md_math.specs.Sums.{sum_to}
use Rattle.md_math.proofs.SizeLaws.{IsWithin-+ℤ, fits_from_IsWithin}
use Rattle.md_math.proofs.SumLaws.{sum_to-more}
use Rattle.md_math.proofs.Bits.{read_result, read_within}
use Rattle.md_space.specs.Profiles.{profile_at}
use Rattle.md_setting.specs.Meaning.{agent_count, sizes_of}
use Rattle.md_mech.proofs.UtilityLaws.{agents_are}
use Rattle.md_report.specs.Regret.{lottery_at}
use Rattle.md_report.proofs.MeasureLaws.{welfare-within}
use Rattle.md_report.proofs.measures.welfare.Goals as goal

pub overflow_add-sum : goal.overflow_add-sum
overflow_add-sum c =
    let s = c.args.setting.now in
    let fits : c.loop-agent.agent ≤ agent_count s = omega (arith, c.agents-agent-end.ensures.count, ap length c.space.ensures.sizes, length-map s.agents (λ a. length a.types)) in
    let before : IsWithin (6 * 2 ^ 86) (to_z w128 c.loop-agent.sum-bits) =
    rw c.loop-agent.invariant (welfare-within s c.args.mechanism.now c.loop-agent.agent (profile_at (sizes_of s) c.args.rank) c.requires.numbers c.space.ensures.shaped fits) in
    rw (read_result c.lottery-sum.result c.lottery-sum.type_inv)
    (fits_from_IsWithin w128 (6 * 2 ^ 86 + 2 ^ 86) (to_z w128 c.loop-agent.sum-bits +ℤ c.lottery-sum.result) (IsWithin-+ℤ (6 * 2 ^ 86) (2 ^ 86) (to_z w128 c.loop-agent.sum-bits) c.lottery-sum.result before c.lottery-sum.ensures.size) (lit< tt))

pub loop-agent-preserved : goal.loop-agent-preserved
loop-agent-preserved c =
    let s = c.args.setting.now in
    let fits : c.loop-agent.agent ≤ agent_count s = omega (arith, c.agents-agent-end.ensures.count, ap length c.space.ensures.sizes, length-map s.agents (λ a. length a.types)) in
    let before : IsWithin (6 * 2 ^ 86) (to_z w128 c.loop-agent.sum-bits) =
    rw c.loop-agent.invariant (welfare-within s c.args.mechanism.now c.loop-agent.agent (profile_at (sizes_of s) c.args.rank) c.requires.numbers c.space.ensures.shaped fits) in
    rw (read_result c.lottery-sum.result c.lottery-sum.type_inv)
    (read_within (6 * 2 ^ 86 + 2 ^ 86) (to_z w128 c.loop-agent.sum-bits +ℤ c.lottery-sum.result)
    (IsWithin-+ℤ (6 * 2 ^ 86) (2 ^ 86) (to_z w128 c.loop-agent.sum-bits) c.lottery-sum.result before c.lottery-sum.ensures.size) (lit< tt)
    ∙ rw (c.loop-agent.invariant, c.lottery-sum.ensures.value) (sym (sum_to-more c.loop-agent.agent (λ i. lottery_at s c.args.mechanism.now i (profile_at (sizes_of s) c.args.rank)))))

pub returns-clause-size : goal.returns-clause-size
returns-clause-size c =
    let s = c.args.setting.now in
    let fits : c.loop-agent.agent ≤ agent_count s = omega (arith, c.agents-agent-end.ensures.count, ap length c.space.ensures.sizes, length-map s.agents (λ a. length a.types)) in
    rw c.loop-agent.invariant (welfare-within s c.args.mechanism.now c.loop-agent.agent (profile_at (sizes_of s) c.args.rank) c.requires.numbers c.space.ensures.shaped fits)

pub returns-clause-value : goal.returns-clause-value
returns-clause-value c =
    let s = c.args.setting.now in
    let end : c.loop-agent.agent ≡ agent_count s =
    agents_are s c.loop-agent.agent c.space.result.now (omega (arith, c.agents-agent-end.ensures.count)) c.space.ensures.sizes in
    c.loop-agent.invariant ∙ ap (λ n. sum_to n (λ i. lottery_at s c.args.mechanism.now i (profile_at (sizes_of s) c.args.rank))) end
