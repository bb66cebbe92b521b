use Rattle.std.proofs.Common.{[], ◌∷◌, ap, ◌∙◌, refl}
use Rattle.md_math.proofs.Bits.{read_result}
use Rattle.md_space.specs.Profiles.{profile_at}
use Rattle.md_setting.specs.Meaning.{sizes_of}
use Rattle.md_mech.specs.Rows.{interim_row}
use Rattle.md_forms.specs.Terms.{sum_at}
use Rattle.md_rows.specs.ProgramOf.{form_of}
use Rattle.md_rows.specs.Built.{Extends}
use Rattle.md_rows.specs.Sides.{utility_in, utility_as}
use Rattle.md_rows.proofs.RowForms.{on_ok}
use Rattle.md_rows.proofs.ShareLaws.{interim-sum}
use Rattle.md_rows.proofs.conditions.push_interim.Goals as goal

pub returns-clause-ok : goal.returns-clause-ok
returns-clause-ok c =
    let s = c.args.setting.now in
    on_ok c.push_form.result _ (Extends s (interim_row c.args.agent c.args.kind ∷ []) c.args.lp.now c.push_form.new.lp)
    (λ f. f (form_of s (interim_row c.args.agent c.args.kind)) (record {
      kind_is = refl;
      left_is = λ x.
          ap (sum_at x) c.deref-2.ensures.value
          ∙ c.in_ok-terms.ensures.sum x
          ∙ ap (sum_at (λ r. utility_as s x c.args.agent c.args.kind (profile_at (sizes_of s) r))) c.deref.ensures.value
          ∙ c.in_ok-shares.ensures.sum (λ r. utility_as s x c.args.agent c.args.kind (profile_at (sizes_of s) r))
          ∙ interim-sum s c.args.agent c.args.kind (utility_in s x c.args.agent);
      right_is = read_result c.lacking.result c.lacking.type_inv ∙ c.lacking.ensures.value;
    })) c.push_form.ensures.ok
