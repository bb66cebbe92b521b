use Rattle.std.proofs.lemmas.Result.{err_from_is_err_and}
use Rattle.md_parts.proofs.MultiplierSteps.{row-read, row-place, row-numbers, row-missing}
use Rattle.md_parts.proofs.multipliers.read_row.Goals as goal

pub returns-in_err-fields-clause-read : goal.returns-in_err-fields-clause-read
returns-in_err-fields-clause-read c =
    let p = err_from_is_err_and c.from_residual.result c.from_residual.ensures.1 in
    rw (p.1, p.2) (λ ne. row-missing c.args.rows c.args.count c.args.least c.args.reader.now _ (c.in_err-fields.ensures ne))

pub returns-in_err-row-clause-read : goal.returns-in_err-row-clause-read
returns-in_err-row-clause-read c =
    let p = err_from_is_err_and c.from_residual-in_err-row.result c.from_residual-in_err-row.ensures.1 in
    rw (p.1, p.2) (λ _. row-place c.args.rows c.args.count c.args.least c.args.reader.now c.next.new.self c.in_ok-fields.fields _ c.in_ok-fields.ensures c.in_err-row.ensures.read)

pub returns-in_err-numbers-clause-read : goal.returns-in_err-numbers-clause-read
returns-in_err-numbers-clause-read c =
    let p = err_from_is_err_and c.from_residual-in_err-numbers.result c.from_residual-in_err-numbers.ensures.1 in
    rw (p.1, p.2) (λ ne. row-numbers c.args.rows c.args.count c.args.least c.args.reader.now c.next.new.self c.in_ok-fields.fields c.place.new.self c.in_ok-row.row _ c.in_ok-fields.ensures c.in_ok-row.ensures.read (c.in_err-numbers.ensures ne))

pub returns-clause-read : goal.returns-clause-read
returns-clause-read c =
    let (numbers, reads, items, adds) = c.in_ok-numbers.ensures in
    let whole = row-read c.args.rows c.args.count c.args.least c.args.reader.now c.next.new.self c.in_ok-fields.fields c.place.new.self c.numbers.new.self c.in_ok-row.row numbers c.in_ok-fields.ensures c.in_ok-row.ensures.read reads in
    rw (items, c.new-multipliers.ensures) whole
