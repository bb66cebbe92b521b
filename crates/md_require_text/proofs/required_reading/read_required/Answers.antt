use Rattle.std.proofs.lemmas.Result.{MatchResult-weaker}
use Rattle.md_require_text.proofs.AnswerLaws.{required-behind}
use Rattle.md_require_text.proofs.required_reading.read_required.Goals as goal

pub returns-clause-reads : goal.returns-clause-reads
returns-clause-reads c =
    let s = c.args.setting.now in
    let bytes = c.args.bytes.now in
    let start = c.in_ok-reader.reader in
    let head = c.in_ok-head.head in
    let cs = c.in_ok-conditions.conditions.items in
    let first = c.in_ok-head.ensures.read in
    let second = c.in_ok-conditions.ensures.read in
    MatchResult-weaker c.read_behind.result c.read_behind.ensures.read
    (λ answer reads. required-behind s bytes _ start c.read_first.new.reader c.read_all.new.reader head cs _ c.in_ok-reader.ensures c.answer_words.ensures first second reads)
    (λ refusal fails ne. required-behind s bytes _ start c.read_first.new.reader c.read_all.new.reader head cs _ c.in_ok-reader.ensures c.answer_words.ensures first second (fails ne))
