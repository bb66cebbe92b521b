use Rattle.std.proofs.Common.{◌≡◌, ◌↔◌, Ok, pos, ◌≤ℤ◌, arith}
use Rattle.std.proofs.lemmas.Int.{ints}
use Rattle.md_setting.specs.Meaning.{total_of}
use Rattle.md_setting.proofs.MarginalLaws.{total-positive}
use Rattle.md_question.specs.Best.{best_question}
use Rattle.md_question.specs.Certified.{IsCertifiedFinding}
use Rattle.md_question.specs.Findings.{ClaimsUnbounded}
use Rattle.md_answer.specs.Answers as answers
use Rattle.md_answer.specs.Rows.{text_of_answer}
use Rattle.md_solve.specs.Bounds.{HasNoBound}
use Rattle.md_solve.specs.Solved.{answer_of}
use Rattle.md_solve.proofs.Claims.{exactly_unbounded}
use Rattle.md_cli_best.proofs.Found.{best-valid, claims-unbounded, find-status, headline-found, said-found}
use Rattle.md_cli_best.proofs.find.best_found.Goals as goal

pub returns-clause-find : goal.returns-clause-find
returns-clause-find c =
    let s = c.general.result.now in
    let finding = c.args.finding in
    let status = c.status-status.result in
    let text = c.in_ok-write_answer.field-0.items in
    let h : IsCertifiedFinding (best_question s) finding = rw c.general.ensures at c.requires.certified in
    let written = rw (c.general.ensures, c.answer_of-answer.ensures) at c.in_ok-write_answer.ensures in
    let total : pos 1 ≤ℤ total_of s = omega (arith, ints, total-positive s c.space-shaped.ensures.shaped) in
    let unbounded : ClaimsUnbounded finding ↔ HasNoBound s = claims-unbounded s finding (exactly_unbounded s finding total h.so) in
    rw c.general.ensures (record {
      told = said-found (best_question s) (HasNoBound s) (λ f. text_of_answer s (answer_of f)) (λ t f. answers.answer_of s t ≡ Ok (answer_of f)) record { status = status; text = text } finding h unbounded c.status-status.ensures.value written.text written.reads_back (λ _. best-valid s finding h);
      headline = headline-found s text status finding h (exactly_unbounded s finding total h.so) c.status-status.ensures.value written.reads_back;
    })

pub returns-clause-status : goal.returns-clause-status
returns-clause-status c = find-status c.status-status.result c.args.finding c.status-status.ensures.value
