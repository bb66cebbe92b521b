use Rattle.std.proofs.Common.{◌<◌, ◌≤◌, length, ap, arith}
use Rattle.std.specs.Prelude.{string_bytes}
use Rattle.md_space.specs.Profiles.{profile_at}
use Rattle.md_setting.specs.Meaning.{sizes_of}
use Rattle.md_mech.specs.RowName.{type_names}
use Rattle.md_conditions_text.proofs.Joined.{agents-sizes, joined-all, joined-first, joined-more, names-count}
use Rattle.md_conditions_text.proofs.names.profile_name.Goals as goal

pub type_at-requires-clause-agent_in : goal.type_at-requires-clause-agent_in
type_at-requires-clause-agent_in c = let some = c.space-space.ensures.shaped.listed.space.some_agent in omega (arith, some, agents-sizes c.args.setting.now)

pub loop-agent-init : goal.loop-agent-init
loop-agent-init c =
    let s = c.args.setting.now in
    let names = type_names s.agents (profile_at (sizes_of s) c.args.rank) in
    let some = c.space-space.ensures.shaped.listed.space.some_agent in
    let first : 0 < length names = omega (arith, some, agents-sizes s, names-count s c.args.rank c.requires) in
    joined-first names (string_bytes c.in_ok-name.name) c.type_at.result.now first c.type_at.ensures c.in_ok-name.ensures.ok

pub loop-agent-preserved : goal.loop-agent-preserved
loop-agent-preserved c =
    let s = c.args.setting.now in
    let names = type_names s.agents (profile_at (sizes_of s) c.args.rank) in
    let inside : c.loop-agent.agent < length names =
    omega (arith, c.loop-agent-test.true, c.agents-agent-end.ensures.count, ap length c.space-space.ensures.sizes, agents-sizes s, names-count s c.args.rank c.requires) in
    joined-more names (string_bytes c.loop-agent.name) (string_bytes c.push_type.new.name) c.type_at-in-loop-agent.result.now c.loop-agent.agent (omega (arith, c.loop-agent.auto.agent)) inside
    c.type_at-in-loop-agent.ensures c.loop-agent.invariant c.in_ok-push_type.ensures

pub returns : goal.returns
returns c =
    let s = c.args.setting.now in
    let names = type_names s.agents (profile_at (sizes_of s) c.args.rank) in
    let long : length names ≤ c.loop-agent.agent =
    omega (arith, c.loop-agent-test.false, c.agents-agent-end.ensures.count, ap length c.space-space.ensures.sizes, agents-sizes s, names-count s c.args.rank c.requires) in
    joined-all names (string_bytes c.loop-agent.name) c.loop-agent.agent long c.loop-agent.invariant
