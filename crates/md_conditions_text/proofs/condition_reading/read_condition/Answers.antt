use Rattle.std.proofs.Common.{rules, SFits}
use Rattle.std.proofs.lemmas.Int.{to_z-of_z}
use Rattle.std.proofs.lemmas.Result.{err_from_is_err_and}
use mir.Syntax.{w128}
use Rattle.md_conditions_text.specs.Kinds.{measure_count, word_of}
use Rattle.md_conditions_text.proofs.FieldLaws.{condition-bound, condition-measure, condition-read, taken-by}
use Rattle.md_conditions_text.proofs.condition_reading.read_condition.Goals as goal

pub returns-in_err-measured-clause-read : goal.returns-in_err-measured-clause-read
returns-in_err-measured-clause-read c =
    let p = err_from_is_err_and c.from_residual-in_err-measured.result c.from_residual-in_err-measured.ensures.1 in
    let taken = taken-by _ (word_of c.args.kind) _ (measure_count c.args.kind) c.args.reader.now c.next.new.self c.in_ok-fields.fields c.word.ensures c.measures.ensures c.in_ok-fields.ensures in
    rw (p.1, p.2) (λ ne. condition-measure c.args.setting.now c.args.kind c.args.reader.now c.next.new.self c.in_ok-fields.fields _ taken (c.in_err-measured.ensures.read ne))

pub returns-in_err-bounded-clause-read : goal.returns-in_err-bounded-clause-read
returns-in_err-bounded-clause-read c =
    let p = err_from_is_err_and c.from_residual-in_err-bounded.result c.from_residual-in_err-bounded.ensures.1 in
    let taken = taken-by _ (word_of c.args.kind) _ (measure_count c.args.kind) c.args.reader.now c.next.new.self c.in_ok-fields.fields c.word.ensures c.measures.ensures c.in_ok-fields.ensures in
    rw (p.1, p.2) (λ _. condition-bound c.args.setting.now c.args.kind c.args.reader.now c.next.new.self c.in_ok-fields.fields c.read_measured.new.fields c.in_ok-measured.measured _ taken c.in_ok-measured.ensures.read c.in_err-bounded.ensures.read)

pub returns-clause-read : goal.returns-clause-read
returns-clause-read c =
    let taken = taken-by _ (word_of c.args.kind) _ (measure_count c.args.kind) c.args.reader.now c.next.new.self c.in_ok-fields.fields c.word.ensures c.measures.ensures c.in_ok-fields.ensures in
    let bounded = c.in_ok-bounded.bounded in
    let num_fits : SFits w128 bounded.num = search rules in
    let den_fits : SFits w128 bounded.den = search rules in
    rw (to_z-of_z w128 bounded.num num_fits, to_z-of_z w128 bounded.den den_fits)
    (condition-read c.args.setting.now c.args.kind c.args.reader.now c.next.new.self c.in_ok-fields.fields c.read_measured.new.fields c.read_bounded.new.fields
    (record { measured = c.in_ok-measured.measured; side = bounded.side; num = bounded.num; den = bounded.den }) taken c.in_ok-measured.ensures.kind c.in_ok-measured.ensures.read c.in_ok-bounded.ensures.read)
