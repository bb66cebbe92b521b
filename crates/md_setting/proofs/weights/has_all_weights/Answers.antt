use Rattle.std.proofs.Common.{◌≡◌, ◌<◌, true, not, ◌==◌, length, sym, ◌∙◌, ap, subst, arith, slice_index}
use Rattle.std.specs.Prelude.{unsigned_abs}
use Rattle.std.proofs.lemmas.List.{length-map}
use Rattle.md_setting.specs.Setting.{written}
use Rattle.md_setting.specs.Meaning.{sizes_of, agent_count, marginal_of}
use Rattle.md_setting.specs.Refusals.{all_below, has_all_weights}
use Rattle.md_setting.proofs.TestLaws.{all_below-fails}
use Rattle.md_setting.proofs.weights.has_all_weights.Goals as goal

pub returns-then-not-has_type_weights : goal.returns-then-not-has_type_weights
unfolding has_all_weights
returns-then-not-has_type_weights c =
    let s = written c.args.raw.now in
    let below : c.loop-agent.agent < agent_count s =
    omega (arith, c.loop-agent-test.true, c.agents-agent-end.ensures.count, ap length c.requires.sizes, length-map s.agents (λ a. length a.types)) in
    sym (all_below-fails _ c.loop-agent.agent _ below (sym c.has_type_weights.ensures ∙ c.if-not-has_type_weights.true))

pub returns : goal.returns
unfolding has_all_weights
returns c =
    let s = written c.args.raw.now in
    let end : c.loop-agent.agent ≡ agent_count s =
    omega (arith, c.agents-agent-end.ensures.count, ap length c.requires.sizes, length-map s.agents (λ a. length a.types)) in
    sym (subst (λ n. all_below n (λ i. all_below (slice_index (sizes_of s) i) (λ a. not (unsigned_abs (marginal_of s i a) == 0))) ≡ true) end c.loop-agent.invariant)
