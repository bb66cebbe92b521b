use Rattle.std.proofs.Common.{◌≢◌, ◌<◌, [], ◌∷◌, ap, sym, ◌∙◌, arith, refl, length}
use Rattle.std.proofs.lemmas.List.{length-map}
use Rattle.md_space.specs.Profiles.{profile_at}
use Rattle.md_setting.specs.Meaning.{sizes_of}
use Rattle.md_mech.specs.Rows.{bayes_row}
use Rattle.md_forms.specs.Terms.{sum_at}
use Rattle.md_rows.specs.ProgramOf.{form_of}
use Rattle.md_rows.specs.Built.{Extends}
use Rattle.md_rows.specs.Sides.{utility_in, utility_as}
use Rattle.md_rows.proofs.RowForms.{on_ok}
use Rattle.md_rows.proofs.ShareLaws.{bayes-sum}
use Rattle.md_rows.proofs.conditions.push_bayes.Goals as goal

pub returns-clause-ok : goal.returns-clause-ok
returns-clause-ok c =
    let s = c.args.setting.now in
    let apart : c.args.report ≢ c.args.kind = c.requires.false_report in
    let inside : c.args.agent < length (sizes_of s) = omega (arith, c.requires.agent_in, length-map s.agents (λ agent. length agent.types)) in
    on_ok c.push_form.result _ (Extends s (bayes_row c.args.agent c.args.kind c.args.report ∷ []) c.args.lp.now c.push_form.new.lp)
    (λ f. f (form_of s (bayes_row c.args.agent c.args.kind c.args.report)) (record {
      kind_is = refl;
      left_is = λ x.
          ap (sum_at x) c.deref-2.ensures.value
          ∙ c.in_ok-terms.ensures.sum x
          ∙ ap (sum_at (λ r. utility_as s x c.args.agent c.args.kind (profile_at (sizes_of s) r))) c.deref.ensures.value
          ∙ c.in_ok-shares.ensures.sum (λ r. utility_as s x c.args.agent c.args.kind (profile_at (sizes_of s) r))
          ∙ bayes-sum s c.args.agent c.args.kind c.args.report (utility_in s x c.args.agent) inside c.requires.kind_in c.requires.report_in (λ e. apart (sym e));
      right_is = refl;
    })) c.push_form.ensures.ok
