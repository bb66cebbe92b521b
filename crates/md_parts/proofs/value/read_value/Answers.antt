use Rattle.std.proofs.Common.{rules, SFits}
use Rattle.std.proofs.lemmas.Int.{to_z-of_z}
use Rattle.std.proofs.lemmas.Result.{err_from_is_err_and}
use mir.Syntax.{w128}
use Rattle.md_parts.proofs.PartsRead.{value-known}
use Rattle.md_parts.proofs.TableSteps.{value-read, value-fails}
use Rattle.md_parts.proofs.value.read_value.Goals as goal

pub returns-in_err-num-clause-read : goal.returns-in_err-num-clause-read
returns-in_err-num-clause-read c =
    let p = err_from_is_err_and c.from_residual-in_err-num.result c.from_residual-in_err-num.ensures.1 in
    rw (p.1, p.2) (λ _. value-fails c.args.reader.now c.next.new.self c.in_ok-fields.fields _ c.in_ok-fields.ensures c.in_err-num.ensures)

pub returns-clause-read : goal.returns-clause-read
returns-clause-read c =
    let num_fits : SFits w128 c.in_ok-num.num = search rules in
    let den_fits : SFits w128 c.in_ok-num.den = search rules in
    rw (to_z-of_z w128 c.in_ok-num.num num_fits, to_z-of_z w128 c.in_ok-num.den den_fits)
    (value-read c.args.reader.now c.next.new.self c.in_ok-fields.fields c.pair.new.self _ _ c.in_ok-fields.ensures c.in_ok-num.ensures)

pub returns-clause-fraction : goal.returns-clause-fraction
returns-clause-fraction c = value-known c.args.reader.now _ _ (returns-clause-read c)
