use Rattle.std.proofs.Common.{[], ◌∷◌, ap, ◌∙◌, refl}
use Rattle.md_math.proofs.Bits.{read_result}
use Rattle.md_forms.specs.Built.{Extends}
use Rattle.md_forms.specs.Terms.{sum_at}
use Rattle.md_rows.proofs.RowForms.{on_ok}
use Rattle.md_require.specs.Named.{named}
use Rattle.md_require.specs.RequireProgram.{amount_form, amount_in}
use Rattle.md_require.proofs.ConditionRows.{side-times}
use Rattle.md_require.proofs.program.push_amount.Goals as goal

pub returns : goal.returns
returns c =
    let s = c.args.setting.now in
    let k = c.args.condition.now in
    let amount = named s c.args.amount in
    let f = rw (read_result c.at_most-right.result c.at_most-right.type_inv) at c.push_form.ensures.ok in
    on_ok c.push_form.result _ (Extends (amount_form s k amount ∷ []) c.args.lp.now c.push_form.new.lp)
    (λ g. g (amount_form s k amount) (record {
      kind_is = refl;
      left_is = λ x. ap (sum_at x) c.deref.ensures.value ∙ (rw (c.scaled-scaled.ensures.amount, c.scaled-scaled.ensures.scale) at c.in_ok-terms.ensures.sum) x ∙ side-times k.side k.den (amount_in s x amount);
      right_is = (rw (read_result c.bound.result c.bound.type_inv, c.bound.ensures.value) at c.at_most-right.ensures.value);
    })) f
