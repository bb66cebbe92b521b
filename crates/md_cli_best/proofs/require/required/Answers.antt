use Rattle.std.proofs.Common.{◌≡◌}
use Rattle.md_question_solve.specs.Found.{HasWidePaths}
use Rattle.md_question_solve.proofs.FoundLaws.{if_both, wide-paths}
use Rattle.md_require.specs.RequireQuestion.{require_question}
use Rattle.md_cli_driver.specs.Saying.{said, undecided_text}
use Rattle.md_cli_driver.specs.declared.answered.Answered.{Answered}
use Rattle.md_cli_best.specs.Requiring.{IsRequiring}
use Rattle.md_cli_best.proofs.Required.{said-not_found}
use Rattle.md_cli_best.proofs.require.required.Goals as goal

pub returns-in-Err-TooWide-clause-require : goal.returns-in-Err-TooWide-clause-require
returns-in-Err-TooWide-clause-require c =
    let s = c.args.setting.now in
    let conditions = c.args.conditions.now in
    let h = rw (c.in-Err-TooWide.field-0-is, c.new-requiring.ensures.setting, c.new-requiring.ensures.conditions) at c.in-Err-TooWide.ensures in
    let wide : HasWidePaths (require_question s conditions) 62 = wide-paths (require_question s conditions) 62 c.in-Err-TooWide.field-0-0 c.in-Err-TooWide.field-0-1 h.left in
    if_both c.not_found.result (λ (a : Answered). a.status ≡ 22) (λ a. a.text.items ≡ undecided_text) (λ a. IsRequiring s conditions (said a)) (λ a status text. said-not_found s conditions (said a) wide status text)
    c.not_found.ensures.status c.not_found.ensures.text
