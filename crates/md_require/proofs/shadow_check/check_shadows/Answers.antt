use Rattle.std.proofs.Common.{◌≡◌, ◌≤◌, length, ap, sym, ◌∙◌, subst}
use Rattle.md_require.proofs.ToldVerdicts.{shadows-length}
use Rattle.md_require.proofs.shadow_check.check_shadows.Goals as goal

pub compared-requires-clause-one_each : goal.compared-requires-clause-one_each
compared-requires-clause-one_each c =
    let rights = c.in_ok-rights-in-Optimal.rights.items in
    let told : length c.args.told.now ≡ length c.args.conditions.now = rw c.in-Optimal.is at c.requires.told in
    let one_each = shadows-length c.args.setting.now c.args.conditions.now c.in-Optimal.bound rights c.in_ok-rights-in-Optimal.ensures.told in
    told ∙ sym one_each ∙ ap length (sym c.deref.ensures.value)

pub compared-requires-clause-few : goal.compared-requires-clause-few
compared-requires-clause-few c =
    let rights = c.in_ok-rights-in-Optimal.rights.items in
    let one_each = shadows-length c.args.setting.now c.args.conditions.now c.in-Optimal.bound rights c.in_ok-rights-in-Optimal.ensures.told in
    subst (λ n. n ≤ 1000) (sym (ap length c.deref.ensures.value ∙ one_each)) c.requires.conditions.few
