use Rattle.std.proofs.Common.{◌≡◌, subst}
use Rattle.std.proofs.lemmas.Result.{IfOk-weaker}
use Rattle.md_question_check.specs.declared.verdict.Verdict.{Verdict}
use Rattle.md_question_check.specs.declared.verdict.Verdict.TheVariants.{Rejected, Valid}
use Rattle.md_cut_check.specs.CutClaims.{IsCutVerdict}
use Rattle.md_cut_check.proofs.OneCutVerdict.{one-cut_verdict}
use Rattle.md_asym.specs.SaleVerdicts.{IsBestSale, sale_claim}
use Rattle.md_asym.proofs.SaleClaims.{best-claim, sale-laws}
use Rattle.md_asym.proofs.checking.check_best.Goals as goal

pub returns-in-Some-clause-only : goal.returns-in-Some-clause-only
returns-in-Some-clause-only c = λ other is.
    let s = c.args.setting.now in
    let answer = c.args.answer.now in
    one-cut_verdict (sale_claim s answer) (sale-laws s answer c.requires.sale c.in-Some.ensures.shaped c.requires.answer) other (Rejected c.in-Some.reject) is c.in-Some.ensures.some

pub returns-clause-only : goal.returns-clause-only
returns-clause-only c =
    let s = c.args.setting.now in
    let answer = c.args.answer.now in
    let q = sale_claim s answer in
    IfOk-weaker c.judge_odds.result (IsCutVerdict q) (λ v. (other : Verdict) → IsCutVerdict q other → other ≡ v)
    (λ v is other told. one-cut_verdict q (sale-laws s answer c.requires.sale c.other_mass.ensures.shaped c.requires.answer) other v told is) c.judge_odds.ensures

pub returns-clause-claim : goal.returns-clause-claim
returns-clause-claim c =
    let s = c.args.setting.now in
    let answer = c.args.answer.now in
    let q = sale_claim s answer in
    IfOk-weaker c.judge_odds.result (IsCutVerdict q) (λ v. v ≡ Valid → IsBestSale s answer)
    (λ v is valid. best-claim s answer c.requires.sale c.other_mass.ensures.shaped c.requires.answer (subst (IsCutVerdict q) valid is)) c.judge_odds.ensures
