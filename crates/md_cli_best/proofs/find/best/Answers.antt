use Rattle.std.proofs.Common.{◌≡◌}
use Rattle.md_question.specs.Best.{best_question}
use Rattle.md_question_solve.specs.Found.{HasWidePaths}
use Rattle.md_question_solve.proofs.FoundLaws.{if_both, wide-paths}
use Rattle.md_cli_driver.specs.Saying.{said, undecided_text}
use Rattle.md_cli_driver.specs.declared.answered.Answered.{Answered}
use Rattle.md_cli_best.specs.Finding.{IsFinding}
use Rattle.md_cli_best.proofs.Found.{not_found}
use Rattle.md_cli_best.proofs.find.best.Goals as goal

pub returns-in-Err-TooWide-clause-find : goal.returns-in-Err-TooWide-clause-find
returns-in-Err-TooWide-clause-find c =
    let s = c.general.result.now in
    let h = rw c.in-Err-TooWide.field-0-is at c.in-Err-TooWide.ensures in
    let wide : HasWidePaths (best_question s) 62 = wide-paths (best_question s) 62 c.in-Err-TooWide.field-0-0 c.in-Err-TooWide.field-0-1 h.left in
    rw c.general.ensures
    (if_both c.not_found.result (λ (a : Answered). a.status ≡ 22) (λ a. a.text.items ≡ undecided_text) (λ a. IsFinding s (said a)) (λ a status text. not_found s (said a) wide status text)
    c.not_found.ensures.status c.not_found.ensures.text)
