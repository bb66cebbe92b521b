use Rattle.std.proofs.Common.{rules, IfOk, refl, sym, subst}
use Rattle.std.proofs.lemmas.Result.{IfOk-weaker}
use Rattle.md_cert.specs.Fitting.{Fits}
use Rattle.md_cert.specs.declared.certificate.Certificate.{Certificate}
use Rattle.md_question.specs.Question.{unbounded_certificate}
use Rattle.md_question_check.specs.declared.verdict.Verdict.TheVariants.{Rejected}
use Rattle.md_question_check.specs.Certificates.{HasMetPoint, IsJudged}
use Rattle.md_question_check.proofs.OneVerdict.{one-unbounded}
use Rattle.md_question_check.proofs.VerdictLaws.{fits-unbounded, not-admitted_unbounded, unbounded-claimed, unbounded-verdict}
use Rattle.md_question_check.proofs.checking.check_unbounded.Goals as goal

pub judge_by-requires-clause-fits : goal.judge_by-requires-clause-fits
judge_by-requires-clause-fits g c p is =
    subst (Fits p) (sym c.in_ok-certificate.ensures)
    (fits-unbounded (g.Q.Asks.asked c.args.question.now) c.not_admitted.ensures.laws p c.args.mechanism.now c.args.ray.now is c.requires.accepted c.in_default-wide_level.ensures c.requires.ray)

pub judge_by-requires-clause-met : goal.judge_by-requires-clause-met
judge_by-requires-clause-met g c p is = subst (HasMetPoint p) (sym c.in_ok-certificate.ensures) (c.not_admitted.ensures.laws.meets p c.args.mechanism.now is c.in_default.ensures.admitted)

pub returns-clause-verdict : goal.returns-clause-verdict
returns-clause-verdict g c =
    let q = g.Q.Asks.asked c.args.question.now in
    let m = c.args.mechanism.now in
    let ray = c.args.ray.now in
    let judged : IfOk c.judge_by.result (IsJudged q (unbounded_certificate q m ray)) = subst (λ (w : Certificate). IfOk c.judge_by.result (IsJudged q w)) c.in_ok-certificate.ensures c.judge_by.ensures in
    IfOk-weaker c.judge_by.result _ _ (λ v j. unbounded-verdict q m ray v c.in_default.ensures.admitted c.in_default-wide_level.ensures j) judged

pub returns-clause-claim : goal.returns-clause-claim
returns-clause-claim g c =
    let q = g.Q.Asks.asked c.args.question.now in
    let m = c.args.mechanism.now in
    let ray = c.args.ray.now in
    let judged : IfOk c.judge_by.result (IsJudged q (unbounded_certificate q m ray)) = subst (λ (w : Certificate). IfOk c.judge_by.result (IsJudged q w)) c.in_ok-certificate.ensures c.judge_by.ensures in
    IfOk-weaker c.judge_by.result _ _ (λ v j valid. unbounded-claimed q c.not_admitted.ensures.laws m ray v c.requires.accepted.mechanism c.requires.ray j valid) judged

pub returns-in-Some-clause-verdict : goal.returns-in-Some-clause-verdict
returns-in-Some-clause-verdict g c = not-admitted_unbounded (g.Q.Asks.asked c.args.question.now) c.args.mechanism.now c.args.ray.now c.in-Some.reject c.in-Some.ensures.admitted

pub returns-in-Some-clause-only : goal.returns-in-Some-clause-only
returns-in-Some-clause-only g c other told =
    one-unbounded (g.Q.Asks.asked c.args.question.now) c.args.mechanism.now c.not_admitted.ensures.laws c.args.ray.now other (Rejected c.in-Some.reject) told (returns-in-Some-clause-verdict g c)

pub returns-in-Some-wide_level-clause-verdict : goal.returns-in-Some-wide_level-clause-verdict
returns-in-Some-wide_level-clause-verdict g c = search rules

pub returns-in-Some-wide_level-clause-only : goal.returns-in-Some-wide_level-clause-only
returns-in-Some-wide_level-clause-only g c other told =
    one-unbounded (g.Q.Asks.asked c.args.question.now) c.args.mechanism.now c.not_admitted.ensures.laws c.args.ray.now other _ told (returns-in-Some-wide_level-clause-verdict g c)

pub returns-clause-only : goal.returns-clause-only
returns-clause-only g c =
    let q = g.Q.Asks.asked c.args.question.now in
    IfOk-weaker c.judge_by.result _ _ (λ v h other told. one-unbounded q c.args.mechanism.now c.not_admitted.ensures.laws c.args.ray.now other v told h) (returns-clause-verdict g c)
