use Rattle.std.proofs.Common.{[], ◌∷◌, ap, ◌∙◌, refl}
use Rattle.md_forms.specs.Built.{Extends}
use Rattle.md_forms.specs.Terms.{sum_at}
use Rattle.md_rows.proofs.RowForms.{on_ok}
use Rattle.md_fair.specs.FairProgram.{agent_form}
use Rattle.md_fair.proofs.program.push_agent.Goals as goal

pub returns : goal.returns
returns c =
    let s = c.args.setting.now in
    on_ok c.push_form.result _ (Extends (agent_form s c.args.agent ∷ []) c.args.lp.now c.push_form.new.lp)
    (λ f. f (agent_form s c.args.agent) (record {
      kind_is = refl;
      left_is = λ x. ap (sum_at x) c.deref.ensures.value ∙ c.in_ok-terms.ensures.sum x;
      right_is = refl;
    })) c.push_form.ensures.ok
