use Rattle.std.proofs.Common.{rules, SFits}
use Rattle.std.proofs.lemmas.Int.{to_z-of_z}
use mir.Syntax.{w128}
use Rattle.std.proofs.lemmas.Result.{err_from_is_err_and}
use Rattle.md_parts.proofs.PartsRead.{entry-known}
use Rattle.md_parts.proofs.PathSteps.{entry-read, entry-place, entry-number, entry-missing}
use Rattle.md_parts.proofs.path.read_entry.Goals as goal

pub returns-in_err-fields-clause-read : goal.returns-in_err-fields-clause-read
returns-in_err-fields-clause-read c =
    let p = err_from_is_err_and c.from_residual.result c.from_residual.ensures.1 in
    rw (p.1, p.2) (λ ne. entry-missing c.args.reader.now _ (c.in_err-fields.ensures ne))

pub returns-in_err-row-clause-read : goal.returns-in_err-row-clause-read
returns-in_err-row-clause-read c =
    let p = err_from_is_err_and c.from_residual-in_err-row.result c.from_residual-in_err-row.ensures.1 in
    rw (p.1, p.2) (λ _. entry-place c.args.reader.now c.next.new.self c.in_ok-fields.fields _ c.in_ok-fields.ensures c.in_err-row.ensures)

pub returns-in_err-num-clause-read : goal.returns-in_err-num-clause-read
returns-in_err-num-clause-read c =
    let p = err_from_is_err_and c.from_residual-in_err-num.result c.from_residual-in_err-num.ensures.1 in
    rw (p.1, p.2) (λ _. entry-number c.args.reader.now c.next.new.self c.in_ok-fields.fields c.table_place.new.self _ _ c.in_ok-fields.ensures c.in_ok-row.ensures c.in_err-num.ensures)

pub returns-clause-read : goal.returns-clause-read
returns-clause-read c =
    let num_fits : SFits w128 c.in_ok-num.num = search rules in
    let den_fits : SFits w128 c.in_ok-num.den = search rules in
    rw (to_z-of_z w128 c.in_ok-num.num num_fits, to_z-of_z w128 c.in_ok-num.den den_fits)
    (entry-read c.args.reader.now c.next.new.self c.in_ok-fields.fields c.table_place.new.self c.pair.new.self _ c.in_ok-fields.ensures c.in_ok-row.ensures c.in_ok-num.ensures)

pub returns-clause-known : goal.returns-clause-known
returns-clause-known c = entry-known c.args.reader.now _ _ (returns-clause-read c)
