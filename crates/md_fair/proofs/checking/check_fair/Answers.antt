use Rattle.std.proofs.lemmas.Result.{IfOk-weaker}
use Rattle.md_question_check.proofs.VerdictLaws.{verdict-decided}
use Rattle.md_fair.specs.FairQuestion.{fair_question}
use Rattle.md_fair.proofs.checking.check_fair.Goals as goal

pub returns-in-Found-clause-undecided : goal.returns-in-Found-clause-undecided
returns-in-Found-clause-undecided c =
    rw c.in-Found.is
    (IfOk-weaker c.check_finding.result _ _ (λ v is. (λ e. verdict-decided (fair_question c.args.setting.now) c.in-Found.finding v is e, λ n. absurd n)) c.check_finding.ensures.verdict)
