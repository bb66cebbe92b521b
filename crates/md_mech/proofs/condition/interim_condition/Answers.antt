use Rattle.std.proofs.Common.{◌≡◌, ◌<◌, ◌∷◌, [], length, ap, ◌∙◌, refl, arith, slice_index}
use Rattle.std.proofs.lemmas.List.{length-map}
use Rattle.md_setting.specs.Meaning.{agent_count, sizes_of}
use Rattle.md_mech.specs.declared.condition.Condition.TheVariants.{Interim}
use Rattle.md_mech.specs.Rows.{interim_row, by_type}
use Rattle.md_mech.proofs.ConditionLaws.{at_block, at_single, past_singles}
use Rattle.md_mech.proofs.condition.interim_condition.Goals as goal

pub returns-then-rest-from : goal.returns-then-rest-from
returns-then-rest-from c =
    let s = c.args.setting.now in
    let below : c.loop-agent.agent < agent_count s = omega (arith, c.loop-agent-test.true, c.agents-agent-end.ensures.count, ap length c.space.ensures.sizes, length-map s.agents (λ a. length a.types)) in
    let types : c.types-types.result ≡ slice_index (sizes_of s) c.loop-agent.agent =
    c.types-types.ensures.count ∙ ap (λ sizes. slice_index sizes c.loop-agent.agent) c.space-in-loop-agent.ensures.sizes in
    let inside : c.loop-agent.rest < slice_index (sizes_of s) c.loop-agent.agent = omega (arith, c.if-rest-from.true, c.from.ensures, types) in
    at_block s (agent_count s) c.loop-agent.agent c.args.row c.loop-agent.rest (λ i. by_type s i (λ a. interim_row i a ∷ []))
    (Interim c.loop-agent.agent c.loop-agent.rest) below c.loop-agent.invariant
    (at_single s (slice_index (sizes_of s) c.loop-agent.agent) c.loop-agent.rest (interim_row c.loop-agent.agent) (Interim c.loop-agent.agent c.loop-agent.rest) inside refl (below, inside))

pub loop-agent-preserved : goal.loop-agent-preserved
loop-agent-preserved c =
    let s = c.args.setting.now in
    let types : c.from-rest.result ≡ slice_index (sizes_of s) c.loop-agent.agent =
    c.from-rest.ensures ∙ c.types-types.ensures.count ∙ ap (λ sizes. slice_index sizes c.loop-agent.agent) c.space-in-loop-agent.ensures.sizes in
    past_singles c.from-rest.result c.args.row c.loop-agent.rest c.loop-agent.agent interim_row (λ i. slice_index (sizes_of s) i)
    c.loop-agent.invariant types (omega (arith, c.if-rest-from.false, c.from.ensures, c.from-rest.ensures))
