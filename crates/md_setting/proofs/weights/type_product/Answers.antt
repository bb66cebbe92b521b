use Rattle.std.proofs.Common.{◌≡◌, ◌<◌, length, ap, sym, ◌∙◌, subst, arith, slice_index}
use Rattle.std.proofs.lemmas.List.{length-map}
use Rattle.md_math.specs.Lists.{number_at}
use Rattle.md_math.specs.Sizes.{IsWithin}
use Rattle.md_math.proofs.Bits.{read_result, read_short_result}
use Rattle.md_space.specs.Profiles.{profile_at, profile_count}
use Rattle.md_space.proofs.Ranks.{length-IsProfile, profile_at-IsProfile}
use Rattle.md_setting.specs.Setting.{written}
use Rattle.md_setting.specs.Meaning.{sizes_of, agent_at, agent_count}
use Rattle.md_setting.proofs.WeightLaws.{weights-more, weights_fit, weights_within, weights_small}
use Rattle.md_setting.proofs.weights.type_product.Goals as goal

pub product-weight-requires : goal.product-weight-requires
product-weight-requires c =
    let s = written c.args.raw.now in
    let w : c.from.result ≡ number_at (agent_at s c.loop-agent.agent).weights c.report-kind.result =
    c.from.ensures ∙ read_short_result c.type_weight_in.result c.type_weight_in.type_inv ∙ c.type_weight_in.ensures in
    rw (read_result c.from.result c.from.type_inv)
    (weights_fit c.loop-agent.agent _ _ (omega (arith, c.agents-agent-end.ensures.space.few_agents)) c.loop-agent.invariant.1
    (subst (IsWithin 1000000) (sym w) (c.requires.small.weight c.loop-agent.agent c.report-kind.result).within))

pub loop-agent-preserved : goal.loop-agent-preserved
loop-agent-preserved c =
    let s = written c.args.raw.now in
    let t = profile_at (sizes_of s) c.args.rank in
    let kind : c.report-kind.result ≡ slice_index t c.loop-agent.agent =
    c.report-kind.ensures.value ∙ ap (λ sizes. slice_index (profile_at sizes c.args.rank) c.loop-agent.agent) c.requires.sizes in
    let w : c.from.result ≡ number_at (agent_at s c.loop-agent.agent).weights c.report-kind.result =
    c.from.ensures ∙ read_short_result c.type_weight_in.result c.type_weight_in.type_inv ∙ c.type_weight_in.ensures in
    let agents : length (sizes_of s) ≡ agent_count s = length-map s.agents (λ a. length a.types) in
    let long : length t ≡ agent_count s =
    length-IsProfile (sizes_of s) t (profile_at-IsProfile (sizes_of s) c.args.rank (subst (λ sizes. c.args.rank < profile_count sizes) c.requires.sizes c.requires.rank_in)) ∙ agents in
    let inside : c.loop-agent.agent < agent_count s = omega (arith, c.agents-agent-end.ensures.count, ap length c.requires.sizes, agents) in
    let value = rw (read_result c.from.result c.from.type_inv) at c.product-weight.ensures.value in
    rw (read_result c.product-weight.result c.product-weight.type_inv, value) (
      weights-more s.agents t c.loop-agent.agent _ _ inside long c.loop-agent.invariant.0 (w ∙ ap (number_at (agent_at s c.loop-agent.agent).weights) kind),
      weights_within c.loop-agent.agent _ _ c.loop-agent.invariant.1 (subst (IsWithin 1000000) (sym w) (c.requires.small.weight c.loop-agent.agent c.report-kind.result).within),
    )

pub returns-clause-size : goal.returns-clause-size
returns-clause-size c =
    weights_small c.loop-agent.agent _ (omega (arith, c.agents-agent-end.ensures.space.few_agents)) c.loop-agent.invariant.1
