use Rattle.std.proofs.Common.{◌≡◌, ℕ, Bool, slice_index, ap, sym, ◌∙◌, arith}
use Rattle.md_math.specs.Sets.{member}
use Rattle.md_space.specs.Profiles.{profile_at}
use Rattle.md_setting.specs.Setting.{GeneralSetting}
use Rattle.md_setting.specs.Meaning.{agent_count, sizes_of}
use Rattle.md_flow.specs.Over.{any_below}
use Rattle.md_flow.proofs.AnyBelow.{any_below-true}
use Rattle.md_asym_sale.specs.Pairs.{pair_number}
use Rattle.md_asym_sale.proofs.SideLaws.{any_below-next}
use Rattle.md_asym_sale.proofs.sides.has_some.Goals as goal

abbrev test : GeneralSetting → ℕ → ℕ → ℕ → Bool
test s set r i = member set (pair_number (sizes_of s) i (slice_index (profile_at (sizes_of s) r) i))

pub returns-then-has_pair_of : goal.returns-then-has_pair_of
returns-then-has_pair_of c =
    let s = c.args.setting.now in
    sym (any_below-true (agent_count s) (test s c.args.set c.args.rank) c.loop-agent.agent (omega (arith, c.loop-agent-test.true, c.agents-agent-end.ensures.count)) (sym c.has_pair_of.ensures ∙ c.if-has_pair_of.true))

pub loop-agent-preserved : goal.loop-agent-preserved
loop-agent-preserved c = any_below-next c.loop-agent.agent (test c.args.setting.now c.args.set c.args.rank) c.loop-agent.invariant (sym c.has_pair_of.ensures ∙ c.if-has_pair_of.false)

pub returns : goal.returns
returns c =
    let s = c.args.setting.now in
    let end : c.loop-agent.agent ≡ agent_count s = omega (arith, c.loop-agent-test.false, c.loop-agent.auto.agent-end, c.agents-agent-end.ensures.count) in
    sym (ap (λ n. any_below n (test s c.args.set c.args.rank)) (sym end) ∙ c.loop-agent.invariant)
