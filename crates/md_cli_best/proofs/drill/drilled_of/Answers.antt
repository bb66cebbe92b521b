use Rattle.std.proofs.Common.{[], ◌∷◌, ◌∙◌, ap, subst, sym}
use Rattle.md_records.specs.Written.{text_of_records}
use Rattle.md_question_check.specs.declared.verdict.Verdict.{Verdict}
use Rattle.md_check.specs.FileVerdicts.{IsVerdictOn}
use Rattle.md_cli_best.specs.Drilling.{IsReadable, IsToldOf, check_row, drill_row}
use Rattle.md_cli_best.specs.Solving.{IsSolve}
use Rattle.md_cli_driver.specs.Saying.{said}
use Rattle.md_cli_best.proofs.Drilled.{readable, sure}
use Rattle.md_cli_best.proofs.drill.drilled_of.Goals as goal

pub told_of-requires-clause-readable : goal.told_of-requires-clause-readable
told_of-requires-clause-readable c =
    subst (IsReadable c.args.file.now) (sym c.deref.ensures.value)
    (readable c.args.file.now c.greatest_width.result (said c.in_ok-solved.solved) c.in_ok-solved.ensures.solving)

pub returns-clause-drilled : goal.returns-clause-drilled
returns-clause-drilled c =
    let file = c.args.file.now in
    let solving = subst (λ width. IsSolve width file (said c.in_ok-solved.solved)) c.greatest_width.ensures c.in_ok-solved.ensures.solving in
    let told = subst (λ text. IsToldOf c.args.number file text c.in_ok-told_of.field-0.items) c.deref.ensures.value c.in_ok-told_of.ensures in
    let same = sure file 62 (said c.in_ok-solved.solved) told.answer told.checked.verdict solving told.read_back told.checked.judged in
    record {
      file = file;
      generated = c.requires;
      printed = c.in_ok-solved.solved.text.items;
      solved = solving;
      answer = told.answer;
      read_back = told.read_back;
      verdict = subst (IsVerdictOn file told.answer) same told.checked.judged;
      text = told.checked.text ∙ ap (λ (v : Verdict). text_of_records (drill_row c.args.number file told.answer ∷ check_row v ∷ [])) same;
    }
