use Rattle.std.proofs.lemmas.Result.{IfOk-weaker}
use Rattle.md_require_text.proofs.ToldShadows.{shadows-fit}
use Rattle.md_cli_best.proofs.require.shadows_of.Goals as goal

pub returns-in-Optimal-clause-fits : goal.returns-in-Optimal-clause-fits
returns-in-Optimal-clause-fits c =
    rw c.in-Optimal.is
    (IfOk-weaker c.shadows.result _ _ (λ shadows told. shadows-fit c.args.setting.now c.args.conditions.now c.in-Optimal.bound shadows.items told) c.shadows.ensures.told)
