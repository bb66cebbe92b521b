use Rattle.std.proofs.Common.{◌≡◌, ◌<◌, ◌++◌, [], length, get_or, slice_index, ap, sym, ◌∙◌, arith}
use Rattle.std.specs.Prelude.{slice_index_or}
use Rattle.std.proofs.lemmas.List.{length-map}
use Rattle.md_space.specs.Profiles.{profile_at}
use Rattle.md_space.proofs.Ranks.{length-IsProfile, profile_at-IsProfile}
use Rattle.md_setting.specs.Meaning.{agent_at, agent_count, sizes_of}
use Rattle.md_mech.specs.RowName.{type_names}
use Rattle.md_mech.proofs.NameLaws.{length-type_names, type_names-at}
use Rattle.md_report.proofs.RecordLaws.{next_name, all_names}
use Rattle.md_report.proofs.names.profile_name.Goals as goal

pub loop-agent-preserved : goal.loop-agent-preserved
loop-agent-preserved c =
    let s = c.args.setting.now in
    let t = profile_at (sizes_of s) c.args.rank in
    let names = type_names s.agents t in
    let i = c.loop-agent.agent in
    let agents : length (sizes_of s) ≡ agent_count s = length-map s.agents (λ a. length a.types) in
    let long : length t ≡ length s.agents = length-IsProfile (sizes_of s) t (profile_at-IsProfile (sizes_of s) c.args.rank c.requires) ∙ agents in
    let inside : i < length s.agents = omega (arith, c.loop-agent-test.true, c.agents-agent-end.ensures.count, ap length c.space-space.ensures.sizes, agents) in
    let report : c.report-kind.result ≡ slice_index t i =
    c.report-kind.ensures.value ∙ ap (λ sizes. slice_index (profile_at sizes c.args.rank) i) c.space-space.ensures.sizes in
    let word : c.as_bytes-in-loop-agent.result.now ≡ get_or names i [] =
    c.as_bytes-in-loop-agent.ensures.value ∙ c.type_name.ensures
    ∙ ap (λ a. slice_index_or (agent_at s i).types a []) report ∙ sym (type_names-at s.agents t i long inside) in
    next_name names c.loop-agent.name.items _ c.as_bytes-in-loop-agent.result.now i (omega (arith, c.loop-agent.auto.agent))
    (omega (arith, length-type_names s.agents t long, inside)) word c.loop-agent.invariant
    (c.in_ok-extend_from_slice.ensures.items ∙ ap (λ xs. xs ++ c.as_bytes-in-loop-agent.result.now) c.in_ok-push.ensures.items)

pub returns : goal.returns
returns c =
    let s = c.args.setting.now in
    let t = profile_at (sizes_of s) c.args.rank in
    let agents : length (sizes_of s) ≡ agent_count s = length-map s.agents (λ a. length a.types) in
    let long : length t ≡ length s.agents = length-IsProfile (sizes_of s) t (profile_at-IsProfile (sizes_of s) c.args.rank c.requires) ∙ agents in
    all_names (type_names s.agents t) c.loop-agent.name.items c.loop-agent.agent
    (omega (arith, c.loop-agent-test.false, c.agents-agent-end.ensures.count, ap length c.space-space.ensures.sizes, agents, length-type_names s.agents t long))
    c.loop-agent.invariant
