use Rattle.std.proofs.lemmas.Result.{IfOk-weaker}
use Rattle.md_cli_judge.proofs.CheckedTexts.{told_verdict}
use Rattle.md_cli_judge.proofs.check.best_checked.Goals as goal

pub returns-clause-checked : goal.returns-clause-checked
returns-clause-checked c =
    let h = c.in_ok-verdict.ensures in
    IfOk-weaker c.tell_verdict.result _ _
    (λ answered told. told_verdict c.args.file.now c.args.answer.now c.in_ok-verdict.verdict _ c.requires.kind h.verdict h.auction_verdict h.only h.auction_only h.claim h.auction_claim h.undecided told) c.tell_verdict.ensures.told
