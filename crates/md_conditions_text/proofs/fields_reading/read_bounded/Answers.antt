use Rattle.std.proofs.Common.{pos, rules, SFits}
use Rattle.std.proofs.lemmas.Int.{to_z-of_z}
use Rattle.std.proofs.lemmas.Result.{err_from_is_err_and}
use mir.Syntax.{w128}
use Rattle.md_parts.specs.Fields.{any_number, denominator_field}
use Rattle.md_parts.specs.FirstRecord.{word_among}
use Rattle.md_conditions_text.specs.ConditionFields.{side_words}
use Rattle.md_conditions_text.proofs.FieldLaws.{one-fails, three-fails, three-read, two-fails}
use Rattle.md_conditions_text.proofs.fields_reading.read_bounded.Goals as goal

pub returns-in_err-place-clause-read : goal.returns-in_err-place-clause-read
returns-in_err-place-clause-read c =
    let p = err_from_is_err_and c.from_residual.result c.from_residual.ensures.1 in
    let fails = rw c.side_words.ensures at c.in_err-place.ensures.read in
    rw (p.1, p.2) (one-fails (word_among side_words) any_number denominator_field c.args.fields.now _ fails)

pub returns-in_err-num-clause-read : goal.returns-in_err-num-clause-read
returns-in_err-num-clause-read c =
    let p = err_from_is_err_and c.from_residual-in_err-num.result c.from_residual-in_err-num.ensures.1 in
    let reads = rw c.side_words.ensures at c.in_ok-place.ensures.read in
    rw (p.1, p.2) (two-fails (word_among side_words) any_number denominator_field c.args.fields.now c.one_of.new.self (pos c.in_ok-place.place) _ reads c.in_err-num.ensures.read)

pub returns-in_err-den-clause-read : goal.returns-in_err-den-clause-read
returns-in_err-den-clause-read c =
    let p = err_from_is_err_and c.from_residual-in_err-den.result c.from_residual-in_err-den.ensures.1 in
    let reads = rw c.side_words.ensures at c.in_ok-place.ensures.read in
    rw (p.1, p.2) (three-fails (word_among side_words) any_number denominator_field c.args.fields.now c.one_of.new.self c.number.new.self (pos c.in_ok-place.place) c.in_ok-num.num _ reads c.in_ok-num.ensures.read c.in_err-den.ensures.read)

pub returns-clause-read : goal.returns-clause-read
returns-clause-read c =
    let num_fits : SFits w128 c.in_ok-num.num = search rules in
    let den_fits : SFits w128 c.in_ok-den.den = search rules in
    let reads = rw c.side_words.ensures at c.in_ok-place.ensures.read in
    rw (to_z-of_z w128 c.in_ok-num.num num_fits, to_z-of_z w128 c.in_ok-den.den den_fits, c.side_at.ensures.place)
    (three-read (word_among side_words) any_number denominator_field c.args.fields.now c.one_of.new.self c.number.new.self c.number-2.new.self (pos c.in_ok-place.place) c.in_ok-num.num c.in_ok-den.den reads c.in_ok-num.ensures.read c.in_ok-den.ensures.read)
