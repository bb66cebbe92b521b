use Rattle.std.proofs.Common.{◌≡◌, [], ◌∷◌, ap, ◌∙◌, slice_index, refl}
use Rattle.md_space.specs.Profiles.{profile_at}
use Rattle.md_setting.specs.Meaning.{sizes_of}
use Rattle.md_mech.specs.Rows.{dominant_row}
use Rattle.md_forms.specs.Terms.{sum_at}
use Rattle.md_rows.specs.ProgramOf.{form_of}
use Rattle.md_rows.specs.Built.{Extends}
use Rattle.md_rows.specs.Sides.{utility_as}
use Rattle.md_rows.proofs.RowForms.{on_ok, dominant-left}
use Rattle.md_rows.proofs.conditions.push_dominant.Goals as goal

pub returns-clause-ok : goal.returns-clause-ok
returns-clause-ok c =
    let s = c.args.setting.now in
    let t = profile_at (sizes_of s) c.args.rank in
    let kind : c.report-kind.result ≡ slice_index t c.args.agent = c.report-kind.ensures.value ∙ ap (λ sizes. slice_index (profile_at sizes c.args.rank) c.args.agent) c.space.ensures.sizes in
    on_ok c.push_form.result _ (Extends s (dominant_row c.args.agent t c.args.report ∷ []) c.args.lp.now c.push_form.new.lp)
    (λ f. f (form_of s (dominant_row c.args.agent t c.args.report)) (record {
      kind_is = refl;
      left_is = λ x.
          ap (sum_at x) c.deref-2.ensures.value
          ∙ c.in_ok-terms.ensures.sum x
          ∙ ap (sum_at (λ r. utility_as s x c.args.agent c.report-kind.result (profile_at (sizes_of s) r))) c.deref.ensures.value
          ∙ c.in_ok-shares.ensures.sum (λ r. utility_as s x c.args.agent c.report-kind.result (profile_at (sizes_of s) r))
          ∙ dominant-left s x c.args.agent c.args.rank c.args.report c.report-kind.result c.requires.rank_in c.requires.report_in kind;
      right_is = refl;
    })) c.push_form.ensures.ok
