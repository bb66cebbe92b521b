use Rattle.std.proofs.Common.{◌≡◌, ◌∙◌, ap, sym, slice_index}
use Rattle.md_space.specs.Profiles.{profile_count}
use Rattle.md_setting.specs.declared.kinds.Rational.TheVariants.{ExPost, Interim}
use Rattle.md_report.proofs.ToldLaws.{ex_post-length, interim-length}
use Rattle.md_report.proofs.blocks.rational_rows.Goals as goal

pub returns-in-ExPost-clause-value : goal.returns-in-ExPost-clause-value
returns-in-ExPost-clause-value c =
    let s = c.args.setting.now in
    let kind : s.rational ≡ ExPost = sym c.rational.ensures ∙ c.in-ExPost.is in
    rw kind (c.profiles.ensures.count ∙ ap profile_count c.space.ensures.sizes ∙ sym (ex_post-length s c.args.agent))

pub returns-in-Interim-clause-value : goal.returns-in-Interim-clause-value
returns-in-Interim-clause-value c =
    let s = c.args.setting.now in
    let kind : s.rational ≡ Interim = sym c.rational.ensures ∙ c.in-Interim.is in
    rw kind (c.from.ensures ∙ c.types.ensures.count ∙ ap (λ sizes. slice_index sizes c.args.agent) c.space-in-Interim.ensures.sizes ∙ sym (interim-length s c.args.agent))
