use Rattle.std.proofs.Common.{◌≡◌, ap, ◌∙◌}
use Rattle.std.proofs.lemmas.Result.{IfOk-weaker}
use Rattle.md_records.specs.Written.{text_of_records}
use Rattle.md_require_text.specs.RequiredText.{required_answer_of}
use Rattle.md_require_text.proofs.WrittenAnswers.{required-reads_back}
use Rattle.md_require_text.proofs.required_writing.write_required.Goals as goal

pub returns-clause-reads_back : goal.returns-clause-reads_back
returns-clause-reads_back c =
    let s = c.args.setting.now in
    let rows = c.deref.ensures.value ∙ c.in_ok-rows.ensures in
    IfOk-weaker c.write_records.result (λ text. text.items ≡ text_of_records c.deref.result.now) _
    (λ text is. ap (required_answer_of s) (is ∙ ap text_of_records rows) ∙ required-reads_back s c.args.answer.now c.as_written-accepted.ensures.accepted c.requires)
    c.write_records.ensures.text
