use Rattle.std.proofs.Common.{◌<◌, ◌≤◌, arith}
use Rattle.std.specs.Prelude.{slice_index}
use Rattle.md_setting.specs.Meaning.{sizes_of}
use Rattle.md_mech.specs.RowName.{type_name}
use Rattle.md_conditions_text.proofs.Joined.{agents-sizes}
use Rattle.md_conditions_text.proofs.NameLaws.{named-below}
use Rattle.md_conditions_text.proofs.fields_reading.read_type.Goals as goal

pub overflow_cast-result : goal.overflow_cast-result
overflow_cast-result c =
    let s = c.args.setting.now in
    let n = slice_index (sizes_of s) c.args.agent in
    let below : c.in_ok-place.place < n = named-below (λ name. name.now) c.in_ok-names.names.items c.deref.result.now n c.in_ok-place.place (type_name s c.args.agent) c.in_ok-names.ensures c.deref.ensures.value c.in_ok-place.ensures.inside in
    let few : n ≤ 16 = c.space-shaped.ensures.shaped.listed.space.few_types c.args.agent 0 (let l = c.requires.agent_in in omega (arith, l, agents-sizes s)) in
    omega (arith, below, few)

pub returns-clause-inside : goal.returns-clause-inside
returns-clause-inside c =
    let s = c.args.setting.now in
    named-below (λ name. name.now) c.in_ok-names.names.items c.deref.result.now (slice_index (sizes_of s) c.args.agent) c.in_ok-place.place (type_name s c.args.agent) c.in_ok-names.ensures c.deref.ensures.value c.in_ok-place.ensures.inside
