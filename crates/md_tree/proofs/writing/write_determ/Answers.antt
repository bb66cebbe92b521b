use Rattle.std.proofs.Common.{◌≡◌, ◌∙◌, ap}
use Rattle.std.proofs.lemmas.Result.{IfOk-weaker}
use Rattle.md_records.specs.Written.{text_of_records}
use Rattle.md_tree.specs.AnswerText.{determ_answer_of}
use Rattle.md_tree.proofs.WrittenAnswers.{determ-reads_back}
use Rattle.md_tree.proofs.writing.write_determ.Goals as goal

pub returns-in_err-rows-clause-law : goal.returns-in_err-rows-clause-law
returns-in_err-rows-clause-law c = λ a fits placed. determ-reads_back c.args.setting.now a c.rows-few.ensures.shaped fits placed

pub returns-clause-reads_back : goal.returns-clause-reads_back
returns-clause-reads_back c =
    let rows = c.deref.ensures.value ∙ c.in_ok-rows.ensures.rows in
    IfOk-weaker c.write_records.result (λ text. text.items ≡ text_of_records c.deref.result.now) _
    (λ text is. ap (determ_answer_of c.args.setting.now) (is ∙ ap text_of_records rows) ∙ determ-reads_back c.args.setting.now c.args.answer.now c.rows-few.ensures.shaped c.requires.fits c.in_ok-rows.ensures.places)
    c.write_records.ensures.text

pub returns-clause-law : goal.returns-clause-law
returns-clause-law c = λ a fits placed. determ-reads_back c.args.setting.now a c.rows-few.ensures.shaped fits placed
