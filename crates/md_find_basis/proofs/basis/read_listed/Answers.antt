use Rattle.std.proofs.lemmas.Result.{err_from_is_err_and}
use Rattle.md_find_basis.proofs.BasisSteps.{more-fails, more-missing, more-read}
use Rattle.md_find_basis.proofs.basis.read_listed.Goals as goal

pub returns-in_err-fields : goal.returns-in_err-fields
returns-in_err-fields c =
    let p = err_from_is_err_and c.from_residual.result c.from_residual.ensures.1 in
    rw (p.1, p.2) (λ ne. more-missing c.args.word.now c.args.below c.args.listed.now.items c.args.reader.now _ (c.in_err-fields.ensures ne))

pub returns-in_err-number : goal.returns-in_err-number
returns-in_err-number c =
    let p = err_from_is_err_and c.from_residual-in_err-number.result c.from_residual-in_err-number.ensures.1 in
    rw (p.1, p.2)
    (λ _. more-fails c.args.word.now c.args.below c.args.listed.now.items c.as_slice.result.now c.args.reader.now c.next.new.self c.in_ok-fields.fields c.as_slice.ensures.value _ c.in_ok-fields.ensures c.in_err-number.ensures.read)

pub returns : goal.returns
returns c =
    rw c.in_ok-append.ensures
    (more-read c.args.word.now c.args.below c.args.listed.now.items c.as_slice.result.now c.args.reader.now c.next.new.self c.in_ok-fields.fields c.as_slice.ensures.value c.free_place.new.self c.in_ok-number.number c.in_ok-fields.ensures c.in_ok-number.ensures.read)
