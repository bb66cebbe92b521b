use Rattle.std.proofs.Common.{◌<◌, arith}
use Rattle.md_setting.specs.Meaning.{agent_count}
use Rattle.md_mech.specs.RowName.{agent_name}
use Rattle.md_conditions_text.proofs.Joined.{agents-sizes}
use Rattle.md_conditions_text.proofs.NameLaws.{named-below}
use Rattle.md_conditions_text.proofs.fields_reading.read_agent.Goals as goal

pub overflow_cast-result : goal.overflow_cast-result
overflow_cast-result c =
    let s = c.args.setting.now in
    let below : c.in_ok-place.place < agent_count s = named-below (λ name. name.now) c.in_ok-names.names.items c.deref.result.now (agent_count s) c.in_ok-place.place (agent_name s) c.in_ok-names.ensures c.deref.ensures.value c.in_ok-place.ensures.inside in
    let few = c.space-shaped.ensures.shaped.listed.space.few_agents in
    omega (arith, below, few, agents-sizes s)

pub returns-clause-inside : goal.returns-clause-inside
returns-clause-inside c =
    let s = c.args.setting.now in
    named-below (λ name. name.now) c.in_ok-names.names.items c.deref.result.now (agent_count s) c.in_ok-place.place (agent_name s) c.in_ok-names.ensures c.deref.ensures.value c.in_ok-place.ensures.inside
