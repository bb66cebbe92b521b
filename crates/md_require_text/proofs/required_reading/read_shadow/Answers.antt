use Rattle.std.proofs.Common.{pos, rules, SFits}
use Rattle.std.proofs.lemmas.Int.{to_z-of_z}
use Rattle.std.proofs.lemmas.Result.{err_from_is_err_and}
use mir.Syntax.{w128}
use Rattle.md_require_text.proofs.ShadowLaws.{shadow-den, shadow-index, shadow-num, shadow-read}
use Rattle.md_require_text.proofs.required_reading.read_shadow.Goals as goal

pub returns-in_err-index-clause-read : goal.returns-in_err-index-clause-read
returns-in_err-index-clause-read c =
    let p = err_from_is_err_and c.from_residual-in_err-index.result c.from_residual-in_err-index.ensures.1 in
    let fails = rw c.from.ensures at c.in_err-index.ensures.read in
    rw (p.1, p.2) (λ _. shadow-index c.args.count c.args.least c.args.reader.now c.next.new.self c.in_ok-fields.fields _ c.in_ok-fields.ensures fails)

pub returns-in_err-num-clause-read : goal.returns-in_err-num-clause-read
returns-in_err-num-clause-read c =
    let p = err_from_is_err_and c.from_residual-in_err-num.result c.from_residual-in_err-num.ensures.1 in
    let one = rw c.from.ensures at c.in_ok-index.ensures.read in
    rw (p.1, p.2) (λ _. shadow-num c.args.count c.args.least c.args.reader.now c.next.new.self c.in_ok-fields.fields c.place.new.self (pos c.in_ok-index.index) _ c.in_ok-fields.ensures one c.in_err-num.ensures.read)

pub returns-in_err-den-clause-read : goal.returns-in_err-den-clause-read
returns-in_err-den-clause-read c =
    let p = err_from_is_err_and c.from_residual-in_err-den.result c.from_residual-in_err-den.ensures.1 in
    let one = rw c.from.ensures at c.in_ok-index.ensures.read in
    rw (p.1, p.2)
    (λ _. shadow-den c.args.count c.args.least c.args.reader.now c.next.new.self c.in_ok-fields.fields c.place.new.self c.number.new.self (pos c.in_ok-index.index) c.in_ok-num.num _ c.in_ok-fields.ensures one c.in_ok-num.ensures.read
    c.in_err-den.ensures.read)

pub returns-clause-read : goal.returns-clause-read
returns-clause-read c =
    let num_fits : SFits w128 c.in_ok-num.num = search rules in
    let den_fits : SFits w128 c.in_ok-den.den = search rules in
    let one = rw c.from.ensures at c.in_ok-index.ensures.read in
    rw (to_z-of_z w128 c.in_ok-num.num num_fits, to_z-of_z w128 c.in_ok-den.den den_fits)
    (shadow-read c.args.count c.args.least c.args.reader.now c.next.new.self c.in_ok-fields.fields c.place.new.self c.number.new.self c.number-2.new.self (pos c.in_ok-index.index) c.in_ok-num.num c.in_ok-den.den c.in_ok-fields.ensures one
    c.in_ok-num.ensures.read c.in_ok-den.ensures.read)
