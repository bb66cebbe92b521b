use Rattle.std.proofs.lemmas.Result.{IfOk-weaker}
use Rattle.md_asym.specs.declared.sale_answer.SaleAnswer.TheVariants.{Optimal}
use Rattle.md_asym.proofs.SaleClaims.{sale-undecided}
use Rattle.md_asym.proofs.checking.check_asym.Goals as goal

pub returns-in-Optimal-clause-undecided : goal.returns-in-Optimal-clause-undecided
returns-in-Optimal-clause-undecided c =
    rw c.in-Optimal.is
    (IfOk-weaker c.check_best.result _ _ (λ v is. sale-undecided c.args.setting.now (Optimal c.in-Optimal.best) v is) c.check_best.ensures.verdict)
