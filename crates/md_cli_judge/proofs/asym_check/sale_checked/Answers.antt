use Rattle.std.proofs.Common.{subst}
use Rattle.std.proofs.lemmas.Result.{IfOk-weaker}
use Rattle.md_asym.specs.SaleVerdicts.{IsSaleVerdict}
use Rattle.md_cli_judge.proofs.VerdictRows.{untold-in_sale}
use Rattle.md_cli_judge.proofs.asym_check.sale_checked.Goals as goal

pub tell_verdict-requires : goal.tell_verdict-requires
tell_verdict-requires c broken same =
    let s = c.general.result.now in
    absurd (untold-in_sale s c.args.answer.now broken (subst (IsSaleVerdict s c.args.answer.now) same c.in_ok-verdict.ensures.verdict))

pub returns-clause-checked : goal.returns-clause-checked
returns-clause-checked c =
    let h = c.in_ok-verdict.ensures in
    rw c.general.ensures
    (IfOk-weaker c.tell_verdict.result _ _ (λ answered told. record { verdict = c.in_ok-verdict.verdict; is_verdict = h.verdict; only = h.only; claim = h.claim; undecided = h.undecided; told = rw c.general.ensures at told }) c.tell_verdict.ensures.told)
