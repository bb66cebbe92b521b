use Rattle.std.proofs.Common.{pos, ◌∷◌, []}
use Rattle.std.proofs.lemmas.Result.{err_from_is_err_and}
use Rattle.md_parts.specs.Fields.{table_place}
use Rattle.md_parts.proofs.FieldSteps.{reads-then, fails-then, fails-before}
use Rattle.md_parts.proofs.fields.Fields.table_place.Goals as goal

pub returns-in_err-row : goal.returns-in_err-row
returns-in_err-row c =
    let p = err_from_is_err_and c.from_residual.result c.from_residual.ensures.1 in
    rw (p.1, p.2) (fails-before (table_place ∷ []) (table_place ∷ []) c.args.self.now _ c.in_err-row.ensures.read)

pub returns-in_err-column : goal.returns-in_err-column
returns-in_err-column c =
    let p = err_from_is_err_and c.from_residual-in_err-column.result c.from_residual-in_err-column.ensures.1 in
    rw (p.1, p.2) (fails-then (table_place ∷ []) (table_place ∷ []) c.args.self.now c.place.new.self (pos c.in_ok-row.row ∷ []) _ c.in_ok-row.ensures.read c.in_err-column.ensures.read)

pub returns : goal.returns
returns c =
    reads-then (table_place ∷ []) (table_place ∷ []) c.args.self.now c.place.new.self c.place-2.new.self (pos c.in_ok-row.row ∷ []) (pos c.in_ok-column.column ∷ []) c.in_ok-row.ensures.read c.in_ok-column.ensures.read
