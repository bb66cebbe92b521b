use Rattle.std.proofs.Common.{◌≡◌, ◌≤◌, ◌^◌, ◌∙◌, ap, arith}
use Rattle.std.proofs.lemmas.Result.{IfOk-weaker}
use Rattle.md_setting.specs.Rows.{row_count}
use Rattle.md_records.specs.Written.{text_of_records}
use Rattle.md_answer.specs.Answers.{answer_of}
use Rattle.md_answer.proofs.WrittenAnswers.{answer-reads_back}
use Rattle.md_answer.proofs.writing.text_about.Goals as goal

pub returns-in_err-rows-clause-law : goal.returns-in_err-rows-clause-law
returns-in_err-rows-clause-law c =
    let few : row_count c.args.setting.now ≤ 2 ^ 32 = let shaped = c.rows-few.ensures.shaped.few_rows in omega arith in
    λ a fits placed. answer-reads_back c.args.setting.now a few fits placed

pub returns-clause-reads_back : goal.returns-clause-reads_back
returns-clause-reads_back c =
    let few : row_count c.args.setting.now ≤ 2 ^ 32 = let shaped = c.rows-few.ensures.shaped.few_rows in omega arith in
    let rows = c.deref.ensures.value ∙ c.in_ok-rows.ensures.rows in
    IfOk-weaker c.write_records.result (λ text. text.items ≡ text_of_records c.deref.result.now) _
    (λ text is. ap (answer_of c.args.setting.now) (is ∙ ap text_of_records rows) ∙ answer-reads_back c.args.setting.now c.args.answer.now few c.requires c.in_ok-rows.ensures.places)
    c.write_records.ensures.text

pub returns-clause-law : goal.returns-clause-law
returns-clause-law c =
    let few : row_count c.args.setting.now ≤ 2 ^ 32 = let shaped = c.rows-few.ensures.shaped.few_rows in omega arith in
    λ a fits placed. answer-reads_back c.args.setting.now a few fits placed
