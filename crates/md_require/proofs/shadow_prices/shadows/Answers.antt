use Rattle.std.proofs.Common.{pos, ◌<ℤ◌, subst}
use Rattle.std.proofs.lemmas.Result.{IfOk-weaker}
use Rattle.md_setting.specs.Meaning.{total_of}
use Rattle.md_require.proofs.ToldVerdicts.{shadows-claim}
use Rattle.md_require.proofs.shadow_prices.shadows.Goals as goal

pub returns-clause-law : goal.returns-clause-law
returns-clause-law c =
    let s = c.args.setting.now in
    let whole : pos 0 <ℤ total_of s = subst (λ z. pos 0 <ℤ z) c.total-weight.ensures.value c.total-weight.ensures.positive in
    IfOk-weaker c.told_shadows.result _ _
    (λ shadows told value m valid. shadows-claim s c.args.conditions.now value m c.args.bound.now shadows.items whole c.requires.conditions valid told)
    c.told_shadows.ensures
