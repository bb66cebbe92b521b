use Rattle.std.proofs.Common.{sym, subst}
use Rattle.std.proofs.lemmas.Result.{IfOk-weaker}
use Rattle.md_fair.specs.FairVerdicts.{IsFairVerdict}
use Rattle.md_cli_judge.specs.Verdicts.{IsBrokenRow}
use Rattle.md_cli_judge.proofs.VerdictRows.{told-in_fair}
use Rattle.md_cli_judge.proofs.fair_check.checked.Goals as goal

pub tell_verdict-requires : goal.tell_verdict-requires
tell_verdict-requires c broken same =
    let s = c.general.result.now in
    subst (λ f. IsBrokenRow f broken) (sym c.general.ensures) (told-in_fair s c.args.answer.now broken (subst (IsFairVerdict s c.args.answer.now) same c.in_ok-verdict.ensures.verdict))

pub returns-clause-checked : goal.returns-clause-checked
returns-clause-checked c =
    let h = c.in_ok-verdict.ensures in
    rw c.general.ensures
    (IfOk-weaker c.tell_verdict.result _ _ (λ answered told. record { verdict = c.in_ok-verdict.verdict; is_verdict = h.verdict; only = h.only; claim = h.claim; undecided = h.undecided; told = rw c.general.ensures at told }) c.tell_verdict.ensures.told)
