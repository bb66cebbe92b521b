use Rattle.std.proofs.Common.{◌≡◌, pos, ◌<ℤ◌, subst}
use Rattle.std.proofs.lemmas.Result.{IfOk-weaker}
use Rattle.md_setting.specs.Meaning.{total_of}
use Rattle.md_question_check.specs.declared.verdict.Verdict.TheVariants as verdicts
use Rattle.md_question_check.specs.Verdicts.{IsVerdictOn}
use Rattle.md_require.specs.RequireQuestion.{require_question}
use Rattle.md_require.specs.RequireVerdicts.{ClaimHolds, IsRequiredVerdict}
use Rattle.md_require.proofs.ToldVerdicts.{answer-claim, both-verdict, one-verdict, valid-left}
use Rattle.md_require.proofs.shadow_check.check_told.Goals as goal

pub returns-in_default : goal.returns-in_default
returns-in_default c =
    let s = c.args.setting.now in
    let conditions = c.args.conditions.now in
    let finding = c.args.finding.now in
    let told = c.args.told.now in
    let found = c.in_ok-reject.field-0 in
    let checked = c.in_ok-reject.ensures in
    let whole : pos 0 <ℤ total_of s = subst (λ z. pos 0 <ℤ z) c.total-weight.ensures.value c.total-weight.ensures.positive in
    let is_valid : found ≡ verdicts.Valid = valid-left found c.in_default.not-Rejected checked.decided in
    let valid : IsVerdictOn (require_question s conditions) finding verdicts.Valid = subst (IsVerdictOn (require_question s conditions) finding) is_valid checked.verdict in
    let claim : ClaimHolds s conditions finding = checked.claim is_valid in
    record {
      verdict = IfOk-weaker c.check_shadows.result _ _ (λ v h. both-verdict s conditions finding told v valid h) c.check_shadows.ensures;
      only = IfOk-weaker c.check_shadows.result _ _
          (λ v h other k. one-verdict s conditions whole finding told c.requires.finding found checked.only other v k (both-verdict s conditions finding told v valid h)) c.check_shadows.ensures;
      claim = IfOk-weaker c.check_shadows.result _ _
          (λ v h e. answer-claim s conditions finding told whole c.requires.conditions (subst (λ w. IsRequiredVerdict s conditions finding told w) e (both-verdict s conditions finding told v valid h)) claim) c.check_shadows.ensures;
    }
