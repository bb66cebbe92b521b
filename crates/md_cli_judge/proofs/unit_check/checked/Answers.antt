use Rattle.std.proofs.Common.{sym, subst}
use Rattle.std.proofs.lemmas.Result.{IfOk-weaker}
use Rattle.md_answer.specs.declared.supply.Supply.TheVariants.{Units}
use Rattle.md_check.specs.AuctionVerdicts.{IsVerdictFor}
use Rattle.md_cli_judge.specs.Verdicts.{IsBrokenRow}
use Rattle.md_cli_judge.proofs.VerdictRows.{told-in_auction}
use Rattle.md_cli_judge.proofs.unit_check.checked.Goals as goal

pub tell_verdict-requires : goal.tell_verdict-requires
tell_verdict-requires c broken same =
    let a = c.auction.result.now in
    subst (λ f. IsBrokenRow f broken) (sym c.auction.ensures)
    (told-in_auction (Units c.args.units.now) a c.args.answer.now broken (subst (IsVerdictFor (Units c.args.units.now) a c.args.answer.now) same c.in_ok-verdict.ensures.verdict))

pub returns-clause-checked : goal.returns-clause-checked
returns-clause-checked c =
    let h = c.in_ok-verdict.ensures in
    rw c.auction.ensures
    (IfOk-weaker c.tell_verdict.result _ _ (λ answered told. record { verdict = c.in_ok-verdict.verdict; is_verdict = h.verdict; only = h.only; claim = h.claim; undecided = h.undecided; told = rw c.auction.ensures at told }) c.tell_verdict.ensures.told)
