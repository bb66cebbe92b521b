use Rattle.std.proofs.Common.{◌<◌, arith}
use Rattle.md_setting.specs.Meaning.{outcome_count}
use Rattle.md_conditions_text.specs.Names.{outcome_name}
use Rattle.md_conditions_text.proofs.NameLaws.{named-below}
use Rattle.md_conditions_text.proofs.fields_reading.read_outcome.Goals as goal

pub overflow_cast-result : goal.overflow_cast-result
overflow_cast-result c =
    let s = c.args.setting.now in
    let below : c.in_ok-place.place < outcome_count s = named-below (λ name. name.now) c.in_ok-names.names.items c.deref.result.now (outcome_count s) c.in_ok-place.place (outcome_name s) c.in_ok-names.ensures c.deref.ensures.value c.in_ok-place.ensures.inside in
    let few = c.space-shaped.ensures.shaped.listed.few_outcomes in
    omega (arith, below, few)

pub returns-clause-inside : goal.returns-clause-inside
returns-clause-inside c =
    let s = c.args.setting.now in
    named-below (λ name. name.now) c.in_ok-names.names.items c.deref.result.now (outcome_count s) c.in_ok-place.place (outcome_name s) c.in_ok-names.ensures c.deref.ensures.value c.in_ok-place.ensures.inside
