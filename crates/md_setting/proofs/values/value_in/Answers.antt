use Rattle.std.proofs.Common.{◌≡◌, ◌<◌, length, ap, ◌∙◌, subst, arith, lit<, pos, to_z, of_z, ◌+ℤ◌}
use mir.Syntax.{w64}
use Rattle.std.proofs.lemmas.List.{length-map}
use Rattle.md_math.proofs.Bits.{read_result, read_short_result, read_short_within}
use Rattle.md_math.proofs.Ring.{linear}
use Rattle.md_math.specs.Lists.{number_at}
use Rattle.md_space.specs.Profiles.{profile_at, profile_count}
use Rattle.md_setting.specs.Setting.{written}
use Rattle.md_setting.specs.Meaning.{sizes_of, utility_of, outcome_count}
use Rattle.md_setting.proofs.ValueLaws.{value_fits, value_more, value_end}
use Rattle.md_setting.proofs.values.value_in.Goals as goal

pub bounds-as_slice-outcome : goal.bounds-as_slice-outcome
bounds-as_slice-outcome c =
    let long : length c.as_slice.result.now ≡ outcome_count (written c.args.raw.now) = ap length c.as_slice.ensures.value ∙ c.requires.listed.values in
    omega (arith, long, c.requires.outcome_in)

pub loop-agent-init : goal.loop-agent-init
loop-agent-init c =
    let s = written c.args.raw.now in
    let start : c.from-value.result ≡ number_at s.values c.args.outcome =
    c.from-value.ensures
    ∙ ap (λ xs. to_z w64 (of_z w64 (number_at xs c.args.outcome))) c.as_slice.ensures.value
    ∙ read_short_within 1000000 (number_at s.values c.args.outcome) (c.requires.small.value c.args.outcome) (lit< tt) in
    let none : number_at s.values c.args.outcome ≡ number_at s.values c.args.outcome +ℤ pos 0 = omega (arith, linear) in
    read_result c.from-value.result c.from-value.type_inv ∙ start ∙ none

pub utility_in-utility-requires-clause-agent_in : goal.utility_in-utility-requires-clause-agent_in
utility_in-utility-requires-clause-agent_in c =
    let s = written c.args.raw.now in
    omega (arith, c.loop-agent-test.true, c.agents-agent-end.ensures.count, ap length c.requires.sizes, length-map s.agents (λ a. length a.types))

pub utility_in-utility-requires-clause-rank_in : goal.utility_in-utility-requires-clause-rank_in
utility_in-utility-requires-clause-rank_in c = subst (λ sizes. c.args.rank < profile_count sizes) c.requires.sizes c.requires.rank_in

pub add_product-value-requires : goal.add_product-value-requires
add_product-value-requires c =
    let s = written c.args.raw.now in
    let t = profile_at (sizes_of s) c.args.rank in
    let w : c.from.result ≡ s.welfare = c.from.ensures ∙ read_short_within 1000 s.welfare c.requires.small.welfare (lit< tt) in
    let u : c.from-in-loop-agent.result ≡ utility_of s c.loop-agent.agent t c.args.outcome =
    c.from-in-loop-agent.ensures ∙ read_short_result c.utility_in-utility.result c.utility_in-utility.type_inv ∙ c.utility_in-utility.ensures in
    rw (read_result c.from.result c.from.type_inv, read_result c.from-in-loop-agent.result c.from-in-loop-agent.type_inv)
    (value_fits s t c.args.outcome c.loop-agent.agent _ _ _ c.requires.small (omega (arith, c.agents-agent-end.ensures.space.few_agents)) c.loop-agent.invariant w u)

pub loop-agent-preserved : goal.loop-agent-preserved
loop-agent-preserved c =
    let s = written c.args.raw.now in
    let t = profile_at (sizes_of s) c.args.rank in
    let w : c.from.result ≡ s.welfare = c.from.ensures ∙ read_short_within 1000 s.welfare c.requires.small.welfare (lit< tt) in
    let u : c.from-in-loop-agent.result ≡ utility_of s c.loop-agent.agent t c.args.outcome =
    c.from-in-loop-agent.ensures ∙ read_short_result c.utility_in-utility.result c.utility_in-utility.type_inv ∙ c.utility_in-utility.ensures in
    read_result c.add_product-value.result c.add_product-value.type_inv
    ∙ (rw (read_result c.from.result c.from.type_inv) at (rw (read_result c.from-in-loop-agent.result c.from-in-loop-agent.type_inv) at c.add_product-value.ensures.value))
    ∙ value_more s t c.args.outcome c.loop-agent.agent _ _ _ c.loop-agent.invariant w u

pub returns : goal.returns
returns c =
    let s = written c.args.raw.now in
    c.loop-agent.invariant ∙ value_end s (profile_at (sizes_of s) c.args.rank) c.args.outcome c.loop-agent.agent
    (omega (arith, ap length c.requires.sizes, c.agents-agent-end.ensures.count, length-map s.agents (λ a. length a.types)))
