use Rattle.std.proofs.lemmas.Result.{err_from_is_err_and}
use Rattle.md_parts.proofs.PathSteps.{pivot-read, pivot-fails, pivot-missing}
use Rattle.md_parts.proofs.path.read_pivot.Goals as goal

pub returns-in_err-fields : goal.returns-in_err-fields
returns-in_err-fields c =
    let p = err_from_is_err_and c.from_residual.result c.from_residual.ensures.1 in
    rw (p.1, p.2) (λ ne. pivot-missing c.args.reader.now _ (c.in_err-fields.ensures ne))

pub returns-in_err-row : goal.returns-in_err-row
returns-in_err-row c =
    let p = err_from_is_err_and c.from_residual-in_err-row.result c.from_residual-in_err-row.ensures.1 in
    rw (p.1, p.2) (λ _. pivot-fails c.args.reader.now c.next.new.self c.in_ok-fields.fields _ c.in_ok-fields.ensures c.in_err-row.ensures)

pub returns : goal.returns
returns c = pivot-read c.args.reader.now c.next.new.self c.in_ok-fields.fields c.table_place.new.self _ c.in_ok-fields.ensures c.in_ok-row.ensures
