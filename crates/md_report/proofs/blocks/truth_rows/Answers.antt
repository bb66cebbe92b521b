use Rattle.std.proofs.Common.{◌≡◌, ◌*◌, ◌-◌, ◌∙◌, ap, ap₂, sym, slice_index}
use Rattle.md_space.specs.Profiles.{profile_count}
use Rattle.md_setting.specs.declared.kinds.Truth.TheVariants.{Dominant, Bayes}
use Rattle.md_setting.specs.Meaning.{sizes_of}
use Rattle.md_mech.proofs.CountLaws.{dominant-length, bayes-length}
use Rattle.md_report.proofs.ToldLaws.{in-sizes}
use Rattle.md_report.proofs.blocks.truth_rows.Goals as goal

pub returns-in-Dominant-clause-value : goal.returns-in-Dominant-clause-value
returns-in-Dominant-clause-value c =
    let s = c.args.setting.now in
    let kind : s.truth ≡ Dominant = sym c.truth.ensures ∙ c.in-Dominant.is in
    let types : c.from-types.result ≡ slice_index (sizes_of s) c.args.agent = c.from-types.ensures ∙ c.types.ensures.count ∙ ap (λ sizes. slice_index sizes c.args.agent) c.space.ensures.sizes in
    let profiles : c.profiles.result ≡ profile_count (sizes_of s) = c.profiles.ensures.count ∙ ap profile_count c.space-in-Dominant.ensures.sizes in
    rw kind (ap₂ (λ p n. p * (n - 1)) profiles types ∙ sym (dominant-length s c.args.agent (in-sizes s c.args.agent c.requires)))

pub returns-in-Bayes-clause-value : goal.returns-in-Bayes-clause-value
returns-in-Bayes-clause-value c =
    let s = c.args.setting.now in
    let kind : s.truth ≡ Bayes = sym c.truth.ensures ∙ c.in-Bayes.is in
    let types : c.from-types.result ≡ slice_index (sizes_of s) c.args.agent = c.from-types.ensures ∙ c.types.ensures.count ∙ ap (λ sizes. slice_index sizes c.args.agent) c.space.ensures.sizes in
    rw kind (ap (λ n. n * (n - 1)) types ∙ sym (bayes-length s c.args.agent))
