use Rattle.std.proofs.Common.{◌≡◌, Ok}
use Rattle.md_question.specs.Certified.{IsCertifiedFinding}
use Rattle.md_question_solve.specs.Found.{HasWidePaths}
use Rattle.md_question_solve.proofs.FoundLaws.{if_both, wide-paths}
use Rattle.md_fair.specs.Bounds.{HasNoLeastBound}
use Rattle.md_fair.specs.FairQuestion.{fair_question}
use Rattle.md_fair.specs.FairRows.{text_of_fair}
use Rattle.md_fair.specs.FairText.{fair_answer_of}
use Rattle.md_fair.specs.declared.answer.FairAnswer.TheVariants.{Found}
use Rattle.md_cli_driver.specs.Saying.{said, undecided_text}
use Rattle.md_cli_driver.specs.declared.answered.Answered.{Answered}
use Rattle.md_cli_best.specs.Finding.{IsFindingBy}
use Rattle.md_cli_best.proofs.Fairest.{fair-valid, narrow-in}
use Rattle.md_cli_best.proofs.Found.{said-found, said-not_found}
use Rattle.md_cli_best.proofs.find.fairest.Goals as goal

pub returns-in-Ok-clause-find : goal.returns-in-Ok-clause-find
returns-in-Ok-clause-find c =
    let s = c.general-setting.result.now in
    let finding = c.in-Ok.finding in
    let h : IsCertifiedFinding (fair_question s) finding = c.in-Ok.ensures.certified in
    rw c.general-setting.ensures
    (said-found (fair_question s) (HasNoLeastBound s) (λ f. text_of_fair s (Found f)) (λ t f. fair_answer_of s t ≡ Ok (Found f)) record { status = c.status.result; text = c.in_ok-write_fair-in-Ok.field-0.items } finding h
    c.in-Ok.ensures.no_bound c.status.ensures.value c.in_ok-write_fair-in-Ok.ensures.text c.in_ok-write_fair-in-Ok.ensures.reads_back
    (λ unbounded. fair-valid s h.program finding h.is_program h.shown h.so h.admitted (narrow-in (fair_question s) finding c.in-Ok.ensures.narrow unbounded)))

pub returns-in-Err-TooWide-clause-find : goal.returns-in-Err-TooWide-clause-find
returns-in-Err-TooWide-clause-find c =
    let s = c.general-setting.result.now in
    let h = rw c.in-Err-TooWide.field-0-is at c.in-Err-TooWide.ensures in
    let wide : HasWidePaths (fair_question s) 62 = wide-paths (fair_question s) 62 c.in-Err-TooWide.field-0-0 c.in-Err-TooWide.field-0-1 h.left in
    rw c.general-setting.ensures
    (if_both c.not_found.result (λ (a : Answered). a.status ≡ 22) (λ a. a.text.items ≡ undecided_text)
    (λ a. IsFindingBy (fair_question s) (HasNoLeastBound s) (λ f. text_of_fair s (Found f)) (λ t f. fair_answer_of s t ≡ Ok (Found f)) (said a))
    (λ a status text. said-not_found (fair_question s) (HasNoLeastBound s) (λ f. text_of_fair s (Found f)) (λ t f. fair_answer_of s t ≡ Ok (Found f)) (said a) wide status text)
    c.not_found.ensures.status c.not_found.ensures.text)
