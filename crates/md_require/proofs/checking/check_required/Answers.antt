use Rattle.std.proofs.lemmas.Result.{IfOk-weaker}
use Rattle.md_question_check.proofs.VerdictLaws.{verdict-decided}
use Rattle.md_require.specs.RequireQuestion.{require_question}
use Rattle.md_require.proofs.checking.check_required.Goals as goal

pub returns-clause-decided : goal.returns-clause-decided
returns-clause-decided c =
    IfOk-weaker c.check_finding.result _ _ (λ v is. verdict-decided (require_question c.args.setting.now c.args.conditions.now) c.args.finding.now v is) c.check_finding.ensures.verdict
