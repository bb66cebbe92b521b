use Rattle.std.proofs.Common.{◌≡◌, ◌∙◌, ap}
use Rattle.std.proofs.lemmas.Result.{IfOk-weaker}
use Rattle.md_records.specs.Written.{text_of_records}
use Rattle.md_asym.specs.SaleText.{sale_answer_of}
use Rattle.md_asym.proofs.WrittenAnswers.{sale-reads_back}
use Rattle.md_asym.proofs.writing.write_asym.Goals as goal

pub returns-clause-reads_back : goal.returns-clause-reads_back
returns-clause-reads_back c =
    let s = c.args.setting.now in
    let rows = c.deref.ensures.value ∙ c.in_ok-rows.ensures.rows in
    IfOk-weaker c.write_records.result (λ text. text.items ≡ text_of_records c.deref.result.now) _
    (λ text is. ap (sale_answer_of s) (is ∙ ap text_of_records rows) ∙ sale-reads_back s c.requires.sale c.rows-shaped.ensures.shaped c.args.answer.now c.requires.answer c.in_ok-rows.ensures.places)
    c.write_records.ensures.text
