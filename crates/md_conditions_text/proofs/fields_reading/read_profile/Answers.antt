use Rattle.std.proofs.Common.{◌<◌, map, ap, ◌∙◌, arith}
use Rattle.std.specs.Prelude.{string_bytes}
use Rattle.md_space.specs.Profiles.{profile_count}
use Rattle.md_setting.specs.Meaning.{sizes_of}
use Rattle.md_conditions_text.specs.Names.{name_at}
use Rattle.md_conditions_text.proofs.NameLaws.{named-below}
use Rattle.md_conditions_text.proofs.fields_reading.read_profile.Goals as goal

pub overflow_cast-result : goal.overflow_cast-result
overflow_cast-result c =
    let s = c.args.setting.now in
    let n = profile_count (sizes_of s) in
    let below : c.in_ok-place.place < n =
    named-below (λ text. text.now) c.in_ok-texts.texts.items c.deref-2.result.now n c.in_ok-place.place (name_at s)
    (c.in_ok-texts.ensures ∙ ap (map string_bytes) c.deref.ensures.value ∙ c.in_ok-names.ensures) c.deref-2.ensures.value c.in_ok-place.ensures.inside in
    let few = c.space-shaped.ensures.shaped.listed.space.few_profiles in
    omega (arith, below, few)

pub returns-clause-inside : goal.returns-clause-inside
returns-clause-inside c =
    let s = c.args.setting.now in
    named-below (λ text. text.now) c.in_ok-texts.texts.items c.deref-2.result.now (profile_count (sizes_of s)) c.in_ok-place.place (name_at s)
    (c.in_ok-texts.ensures ∙ ap (map string_bytes) c.deref.ensures.value ∙ c.in_ok-names.ensures) c.deref-2.ensures.value c.in_ok-place.ensures.inside
