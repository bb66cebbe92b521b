use Rattle.std.proofs.lemmas.Result.{err_from_is_err_and}
use Rattle.md_tree.proofs.RecordsRead.{pair-rank, pair-outcome, pair-read}
use Rattle.md_tree.proofs.fixed_pairs.read_pair.Goals as goal

pub returns-in_err-row-clause-read : goal.returns-in_err-row-clause-read
returns-in_err-row-clause-read c =
    let p = err_from_is_err_and c.from_residual-in_err-row.result c.from_residual-in_err-row.ensures.1 in
    rw (p.1, p.2) (λ _. pair-rank _ _ c.args.reader.now c.next.new.self c.in_ok-fields.fields _ c.in_ok-fields.ensures c.in_err-row.ensures.read)

pub returns-in_err-column-clause-read : goal.returns-in_err-column-clause-read
returns-in_err-column-clause-read c =
    let p = err_from_is_err_and c.from_residual-in_err-column.result c.from_residual-in_err-column.ensures.1 in
    rw (p.1, p.2) (λ _. pair-outcome _ _ c.args.reader.now c.next.new.self c.in_ok-fields.fields c.place.new.self c.in_ok-row.row _ c.in_ok-fields.ensures c.in_ok-row.ensures.read c.in_err-column.ensures.read)

pub returns-clause-read : goal.returns-clause-read
returns-clause-read c =
    pair-read _ _ c.args.reader.now c.next.new.self c.in_ok-fields.fields c.place.new.self c.place-2.new.self c.in_ok-row.row c.in_ok-column.column c.in_ok-fields.ensures c.in_ok-row.ensures.read c.in_ok-column.ensures.read
