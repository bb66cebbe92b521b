use Rattle.std.proofs.lemmas.Result.{err_from_is_err_and, MatchResult-weaker}
use Rattle.md_parts.proofs.FirstSteps.{first-version, first-kind, first-word, first-read}
use Rattle.md_parts.proofs.first_record.read_first.Goals as goal

pub returns-in_err-version-clause-read : goal.returns-in_err-version-clause-read
returns-in_err-version-clause-read c =
    let p = err_from_is_err_and c.from_residual-in_err-version.result c.from_residual-in_err-version.ensures.1 in
    rw (p.1, p.2) (λ _. first-version c.args.kind.now _ c.args.reader.now c.next.new.self c.in_ok-fields.fields _ c.in_ok-fields.ensures c.in_err-version.ensures)

pub returns-in_err-word-clause-read : goal.returns-in_err-word-clause-read
returns-in_err-word-clause-read c =
    let p = err_from_is_err_and c.from_residual-in_err-word.result c.from_residual-in_err-word.ensures.1 in
    rw (p.1, p.2) (λ _. first-kind c.args.kind.now _ c.args.reader.now c.next.new.self c.in_ok-fields.fields c.version.new.self c.in_ok-version.version _ c.in_ok-fields.ensures c.in_ok-version.ensures c.in_err-word.ensures)

pub returns-in_err-place-clause-read : goal.returns-in_err-place-clause-read
returns-in_err-place-clause-read c =
    let p = err_from_is_err_and c.from_residual-in_err-place.result c.from_residual-in_err-place.ensures.1 in
    rw (p.1, p.2) (λ _. first-word c.args.kind.now _ c.args.reader.now c.next.new.self c.in_ok-fields.fields c.version.new.self c.word.new.self c.in_ok-version.version _ c.in_ok-fields.ensures c.in_ok-version.ensures c.in_ok-word.ensures c.in_err-place.ensures.read)

pub returns-clause-read : goal.returns-clause-read
returns-clause-read c =
    MatchResult-weaker c.stand.result c.stand.ensures.read
    (λ head stands. first-read c.args.kind.now _ c.args.reader.now c.next.new.self c.in_ok-fields.fields c.version.new.self c.word.new.self c.one_of.new.self c.in_ok-version.version c.in_ok-place.place _ c.in_ok-fields.ensures c.in_ok-version.ensures c.in_ok-word.ensures c.in_ok-place.ensures.read stands)
    (λ refusal stands _. first-read c.args.kind.now _ c.args.reader.now c.next.new.self c.in_ok-fields.fields c.version.new.self c.word.new.self c.one_of.new.self c.in_ok-version.version c.in_ok-place.place _ c.in_ok-fields.ensures c.in_ok-version.ensures c.in_ok-word.ensures c.in_ok-place.ensures.read stands)
