use Rattle.std.proofs.Common.{◌≡◌, ◌<◌, ◌∷◌, [], length, ap, ◌∙◌, refl, arith}
use Rattle.std.proofs.lemmas.List.{length-map}
use Rattle.md_space.specs.Profiles.{profile_count, profile_at}
use Rattle.md_setting.specs.Meaning.{agent_count, sizes_of}
use Rattle.md_mech.specs.declared.condition.Condition.TheVariants.{ExPost}
use Rattle.md_mech.specs.Rows.{ex_post_row, by_profile}
use Rattle.md_mech.proofs.ConditionLaws.{at_block, at_single, past_singles}
use Rattle.md_mech.proofs.condition.ex_post_condition.Goals as goal

pub returns-then-rest-profiles : goal.returns-then-rest-profiles
returns-then-rest-profiles c =
    let s = c.args.setting.now in
    let profiles : c.profiles-profiles.result ≡ profile_count (sizes_of s) = c.profiles-profiles.ensures.count ∙ ap profile_count c.space.ensures.sizes in
    let below : c.loop-agent.agent < agent_count s = omega (arith, c.loop-agent-test.true, c.agents-agent-end.ensures.count, ap length c.space-2.ensures.sizes, length-map s.agents (λ a. length a.types)) in
    let inside : c.loop-agent.rest < profile_count (sizes_of s) = omega (arith, c.if-rest-profiles.true, profiles) in
    at_block s (agent_count s) c.loop-agent.agent c.args.row c.loop-agent.rest (λ i. by_profile s (λ t. ex_post_row i t ∷ []))
    (ExPost c.loop-agent.agent c.loop-agent.rest) below c.loop-agent.invariant
    (at_single s (profile_count (sizes_of s)) c.loop-agent.rest (λ r. ex_post_row c.loop-agent.agent (profile_at (sizes_of s) r)) (ExPost c.loop-agent.agent c.loop-agent.rest) inside refl (below, inside))

pub loop-agent-preserved : goal.loop-agent-preserved
loop-agent-preserved c =
    let s = c.args.setting.now in
    let profiles : c.profiles-profiles.result ≡ profile_count (sizes_of s) = c.profiles-profiles.ensures.count ∙ ap profile_count c.space.ensures.sizes in
    past_singles c.profiles-profiles.result c.args.row c.loop-agent.rest c.loop-agent.agent (λ i r. ex_post_row i (profile_at (sizes_of s) r)) (λ i. profile_count (sizes_of s))
    c.loop-agent.invariant profiles c.if-rest-profiles.false
