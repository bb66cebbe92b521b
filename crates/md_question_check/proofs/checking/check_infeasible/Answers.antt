use Rattle.std.proofs.Common.{IfOk, sym, subst}
use Rattle.std.proofs.lemmas.Result.{IfOk-weaker}
use Rattle.md_cert.specs.Fitting.{Fits}
use Rattle.md_cert.specs.declared.certificate.Certificate.{Certificate}
use Rattle.md_cert.specs.declared.certificate.Certificate.TheVariants as certificates
use Rattle.md_question_check.specs.Certificates.{HasMetPoint, IsJudged}
use Rattle.md_question.specs.Question.{IsProgramFor}
use Rattle.md_question_check.proofs.OneVerdict.{one-judged}
use Rattle.md_question_check.proofs.VerdictLaws.{fits-infeasible, infeasible-claimed}
use Rattle.md_question_check.proofs.checking.check_infeasible.Goals as goal

pub judge_by-requires-clause-fits : goal.judge_by-requires-clause-fits
judge_by-requires-clause-fits g c p is =
    subst (Fits p) (sym c.in_ok-certificate.ensures) (fits-infeasible (g.Q.Asks.asked c.args.question.now) c.setting-laws.ensures.laws p c.args.face.now is c.requires)

pub judge_by-requires-clause-met : goal.judge_by-requires-clause-met
judge_by-requires-clause-met g c p is = subst (HasMetPoint p) (sym c.in_ok-certificate.ensures) tt

pub returns-clause-verdict : goal.returns-clause-verdict
returns-clause-verdict g c = subst (λ (w : Certificate). IfOk c.judge_by.result (IsJudged (g.Q.Asks.asked c.args.question.now) w)) c.in_ok-certificate.ensures c.judge_by.ensures

pub returns-clause-claim : goal.returns-clause-claim
returns-clause-claim g c =
    let q = g.Q.Asks.asked c.args.question.now in
    let judged : IfOk c.judge_by.result (IsJudged q (certificates.Infeasible c.args.face.now)) = subst (λ (w : Certificate). IfOk c.judge_by.result (IsJudged q w)) c.in_ok-certificate.ensures c.judge_by.ensures in
    IfOk-weaker c.judge_by.result _ _ (λ v j valid. infeasible-claimed q c.setting-laws.ensures.laws c.args.face.now v j valid) judged

pub returns-clause-only : goal.returns-clause-only
returns-clause-only g c =
    IfOk-weaker c.judge_by.result _ _ (λ v h other told. one-judged (IsProgramFor (g.Q.Asks.asked c.args.question.now)) (certificates.Infeasible c.args.face.now) other v tt told h) (returns-clause-verdict g c)
