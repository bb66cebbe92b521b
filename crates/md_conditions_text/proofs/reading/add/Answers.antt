use Rattle.std.proofs.Common.{◌≡◌, ◌+◌, length, sym, subst, ◌∙◌, arith}
use Rattle.md_require.specs.Limits.{AreConditionsFor}
use Rattle.md_conditions_text.proofs.NarrowLaws.{added-few, conditions-more}
use Rattle.md_conditions_text.proofs.reading.add.Goals as goal

pub returns-clause-fits : goal.returns-clause-fits
returns-clause-fits c =
    let s = c.args.setting.now in
    let old = c.args.conditions.now.items in
    let counted : c.len.result + 1 ≡ length old + 1 = omega (arith, c.len.ensures) in
    let few = added-few s old c.args.condition _ c.args.rows counted c.requires.rows (sym c.are_few.ensures ∙ c.if-not-are_few.false) in
    subst (λ cs. AreConditionsFor s cs) (sym c.in_ok-push.ensures) (conditions-more s old c.args.condition c.requires.before c.requires.one few)
