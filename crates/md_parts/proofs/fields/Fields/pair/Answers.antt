use Rattle.std.proofs.Common.{◌∷◌, [], rules, SFits}
use Rattle.std.proofs.lemmas.Int.{to_z-of_z}
use mir.Syntax.{w128}
use Rattle.std.proofs.lemmas.Result.{err_from_is_err_and}
use Rattle.md_parts.specs.Ranges.{ranged_field}
use Rattle.md_parts.proofs.FieldSteps.{reads-then, fails-then, fails-before}
use Rattle.md_parts.proofs.fields.Fields.pair.Goals as goal

pub returns-in_err-one : goal.returns-in_err-one
returns-in_err-one c =
    let p = err_from_is_err_and c.from_residual.result c.from_residual.ensures.1 in
    rw (p.1, p.2) (fails-before (ranged_field c.args.bits c.args.first ∷ []) (ranged_field c.args.bits c.args.second ∷ []) c.args.self.now _ c.in_err-one.ensures.read)

pub returns-in_err-other : goal.returns-in_err-other
returns-in_err-other c =
    let p = err_from_is_err_and c.from_residual-in_err-other.result c.from_residual-in_err-other.ensures.1 in
    rw (p.1, p.2) (fails-then (ranged_field c.args.bits c.args.first ∷ []) (ranged_field c.args.bits c.args.second ∷ []) c.args.self.now c.number.new.self (c.in_ok-one.one ∷ []) _ c.in_ok-one.ensures.read c.in_err-other.ensures.read)

pub returns : goal.returns
returns c =
    let one_fits : SFits w128 c.in_ok-one.one = search rules in
    let other_fits : SFits w128 c.in_ok-other.other = search rules in
    rw (to_z-of_z w128 c.in_ok-one.one one_fits, to_z-of_z w128 c.in_ok-other.other other_fits)
    (reads-then (ranged_field c.args.bits c.args.first ∷ []) (ranged_field c.args.bits c.args.second ∷ []) c.args.self.now c.number.new.self c.number-2.new.self (c.in_ok-one.one ∷ []) (c.in_ok-other.other ∷ []) c.in_ok-one.ensures.read c.in_ok-other.ensures.read)
