use Rattle.std.proofs.Common.{◌≡◌, ◌≤◌, ◌^◌, ◌∙◌, ap, arith}
use Rattle.std.proofs.lemmas.Result.{IfOk-weaker}
use Rattle.md_records.specs.Written.{text_of_records}
use Rattle.md_fair.specs.FairQuestion.{fair_rows}
use Rattle.md_fair.specs.FairText.{fair_answer_of}
use Rattle.md_fair.proofs.Sizes.{agents-few}
use Rattle.md_fair.proofs.WrittenAnswers.{fair-reads_back}
use Rattle.md_fair.proofs.writing.write_fair.Goals as goal

pub returns-clause-reads_back : goal.returns-clause-reads_back
returns-clause-reads_back c =
    let s = c.args.setting.now in
    let shaped = c.rows-few.ensures.shaped in
    let few : fair_rows s ≤ 2 ^ 32 = omega (arith, shaped.few_rows, agents-few s shaped) in
    let rows = c.deref.ensures.value ∙ c.in_ok-rows.ensures.rows in
    IfOk-weaker c.write_records.result (λ text. text.items ≡ text_of_records c.deref.result.now) _
    (λ text is. ap (fair_answer_of s) (is ∙ ap text_of_records rows) ∙ fair-reads_back s c.args.answer.now few c.requires c.in_ok-rows.ensures.places)
    c.write_records.ensures.text
