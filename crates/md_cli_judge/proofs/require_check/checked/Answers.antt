use Rattle.std.proofs.Common.{sym, subst}
use Rattle.std.proofs.lemmas.Result.{IfOk-weaker}
use Rattle.md_require.specs.RequireQuestion.{require_question}
use Rattle.md_require.specs.RequireVerdicts.{IsRequiredVerdict}
use Rattle.md_cli_judge.specs.Verdicts.{IsBrokenRow}
use Rattle.md_cli_judge.proofs.VerdictRows.{told-in_question}
use Rattle.md_cli_judge.proofs.require_check.checked.Goals as goal

pub tell_required-requires : goal.tell_required-requires
tell_required-requires c broken same =
    let s = c.general.result.now in
    let answer = c.args.answer.now in
    let verdict = rw (c.conditions.ensures, c.finding.ensures, c.shadows.ensures) at c.in_ok-verdict.ensures.verdict in
    subst (λ f. IsBrokenRow f broken) (sym c.general.ensures)
    (told-in_question (require_question s answer.conditions) answer.finding broken (subst (IsRequiredVerdict s answer.conditions answer.finding answer.shadows) same verdict))

pub returns-clause-checked : goal.returns-clause-checked
returns-clause-checked c =
    let h = c.in_ok-verdict.ensures in
    let verdict = rw (c.conditions.ensures, c.finding.ensures, c.shadows.ensures) at h.verdict in
    let only = rw (c.conditions.ensures, c.finding.ensures, c.shadows.ensures) at h.only in
    let claim = rw (c.conditions.ensures, c.finding.ensures, c.shadows.ensures) at h.claim in
    rw c.general.ensures
    (IfOk-weaker c.tell_required.result _ _ (λ answered told. record { verdict = c.in_ok-verdict.verdict; is_verdict = verdict; only = only; claim = claim; told = rw c.general.ensures at told }) c.tell_required.ensures.told)
