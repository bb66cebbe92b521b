use Rattle.std.proofs.Common.{◌≡◌, ◌-◌, ◌^◌, pos, Ok, to_z, of_z, sym, ap, ◌∙◌, lit<}
use Rattle.std.proofs.lemmas.Result.{err_from_is_err_and}
use Rattle.std.specs.Prelude.{unsigned_abs}
use mir.Syntax.{w128}
use Rattle.md_math.proofs.Bits.{read_within}
use Rattle.md_answer.proofs.OddsSteps.{den-read, den-fails, den-size}
use Rattle.md_asym.proofs.pair_numbers.read_denominator.Goals as goal

pub returns-in_err-den-clause-read : goal.returns-in_err-den-clause-read
returns-in_err-den-clause-read c =
    let p = err_from_is_err_and c.from_residual-in_err-den.result c.from_residual-in_err-den.ensures.1 in
    rw (p.1, p.2) (λ _. den-fails c.args.reader.now c.next.new.self c.in_ok-fields.fields _ c.in_ok-fields.ensures c.in_err-den.ensures.read)

pub returns-clause-read : goal.returns-clause-read
returns-clause-read c =
    let den = c.in_ok-den.den in
    let back : to_z w128 (of_z w128 den) ≡ den = read_within (2 ^ 62 - 1) den (record { within = c.in_ok-den.ensures.size }) (lit< tt) in
    den-read c.args.reader.now c.next.new.self c.in_ok-fields.fields c.number.new.self den c.in_ok-fields.ensures c.in_ok-den.ensures.read
    ∙ ap (λ z. Ok (z, c.next.new.self)) (sym (ap (λ z. pos (unsigned_abs z)) back ∙ den-size den c.in_ok-den.ensures.range))
