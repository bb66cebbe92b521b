use Rattle.std.proofs.Common.{◌≡◌, ◌+ℤ◌, ◌++◌, ◌∷◌, [], ap, sym, ◌∙◌, arith, rules, append_assoc, to_z, of_z, SFits}
use Rattle.std.proofs.lemmas.Result.{err_from_is_err_and}
use Rattle.std.proofs.lemmas.Int.{to_z-of_z}
use mir.Syntax.{w128}
use Rattle.md_math.proofs.TotalLaws.{total_by-push}
use Rattle.md_parts.specs.Ranges.{ranged_field}
use Rattle.md_parts.proofs.FieldSteps.{reads-more, fails-more}
use Rattle.md_parts.proofs.fields.Fields.numbers.Goals as goal

pub returns-in_err-number : goal.returns-in_err-number
returns-in_err-number c =
    let (room, size, (numbers, reads, items, adds)) = c.loop-place.invariant in
    let p = err_from_is_err_and c.from_residual.result c.from_residual.ensures.1 in
    rw (p.1, p.2) (λ _. fails-more c.loop-place.place c.args.count (ranged_field 62 c.args.range) c.args.self.now c.loop-place.self numbers _ c.loop-place-test.true reads c.in_err-number.ensures.read)

pub loop-place-preserved : goal.loop-place-preserved
loop-place-preserved c =
    let (room, size, (numbers, reads, items, adds)) = c.loop-place.invariant in
    let one = c.in_ok-number.ensures.read in
    let left = one.left in
    let sum_fits : SFits w128 c.added-sum.result = record { sfits = c.added-sum.type_inv } in
    let sum_is : to_z w128 (of_z w128 c.added-sum.result) ≡ c.added-sum.result = to_z-of_z w128 c.added-sum.result sum_fits in
    let number_fits : SFits w128 c.in_ok-number.number = search rules in
    let number_is : to_z w128 (of_z w128 c.in_ok-number.number) ≡ c.in_ok-number.number = to_z-of_z w128 c.in_ok-number.number number_fits in
    let value = rw (number_is) at c.added-sum.ensures.value in
    let larger = rw (number_is) at c.added-sum.ensures.size in
    let pushed = rw (number_is) at c.in_ok-push.ensures.ok in
    let most = c.in_ok-number.ensures.size in (
      omega (arith, left),
      rw sum_is (omega (arith, larger, size, most)),
      (
        numbers ++ c.in_ok-number.number ∷ [],
        reads-more c.loop-place.place (ranged_field 62 c.args.range) c.args.self.now c.loop-place.self c.number.new.self numbers _ reads one,
        pushed ∙ rw items (append_assoc c.args.to.now numbers (c.in_ok-number.number ∷ [])),
        sum_is ∙ value ∙ ap (λ z. z +ℤ c.in_ok-number.number) adds ∙ sym (total_by-push (λ x. x) numbers c.in_ok-number.number),
      ),
    )
