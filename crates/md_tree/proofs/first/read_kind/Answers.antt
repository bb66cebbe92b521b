use Rattle.std.proofs.lemmas.Result.{err_from_is_err_and}
use Rattle.md_tree.proofs.RecordsRead.{first-version, first-about, first-word, first-read}
use Rattle.md_tree.proofs.first.read_kind.Goals as goal

pub returns-in_err-word : goal.returns-in_err-word
returns-in_err-word c =
    let p = err_from_is_err_and c.from_residual-in_err-word.result c.from_residual-in_err-word.ensures.1 in
    rw (p.1, p.2) (λ _. first-version c.args.reader.now c.next.new.self c.in_ok-fields.fields _ c.in_ok-fields.ensures c.in_err-word.ensures)

pub returns-in_err-word-2 : goal.returns-in_err-word-2
returns-in_err-word-2 c =
    let p = err_from_is_err_and c.from_residual-in_err-word-2.result c.from_residual-in_err-word-2.ensures.1 in
    rw (p.1, p.2) (λ _. first-about c.args.reader.now c.next.new.self c.in_ok-fields.fields c.word.new.self _ c.in_ok-fields.ensures c.in_ok-word.ensures c.in_err-word-2.ensures)

pub returns-in_err-place : goal.returns-in_err-place
returns-in_err-place c =
    let p = err_from_is_err_and c.from_residual-in_err-place.result c.from_residual-in_err-place.ensures.1 in
    let fails = rw c.answer_words.ensures at c.in_err-place.ensures.read in
    rw (p.1, p.2) (λ _. first-word c.args.reader.now c.next.new.self c.in_ok-fields.fields c.word.new.self c.word-2.new.self _ c.in_ok-fields.ensures c.in_ok-word.ensures c.in_ok-word-2.ensures fails)

pub returns : goal.returns
returns c =
    let reads = rw c.answer_words.ensures at c.in_ok-place.ensures.read in
    rw c.at.ensures (first-read c.args.reader.now c.next.new.self c.in_ok-fields.fields c.word.new.self c.word-2.new.self c.one_of.new.self c.in_ok-place.place c.in_ok-fields.ensures c.in_ok-word.ensures c.in_ok-word-2.ensures reads)
