use Rattle.std.proofs.Common.{◌≡◌, length, sym, ◌∙◌, subst, arith}
use Rattle.md_list_award.proofs.PlaceLaws.{NoneBefore, place-found, place-behind}
use Rattle.md_list_award.proofs.places.place_of.Goals as goal

pub returns-then-has_value-clause-value : goal.returns-then-has_value-clause-value
returns-then-has_value-clause-value c =
    sym (place-found c.args.ranks.now c.args.group c.args.value c.loop-place.place c.loop-place.invariant c.loop-place-test.true (sym c.has_value.ensures ∙ c.if-has_value.true))

pub returns-clause-value : goal.returns-clause-value
returns-clause-value c =
    let end : c.loop-place.place ≡ length c.args.ranks.now = omega (arith, c.loop-place-test.false, c.loop-place.auto.place-end) in
    sym (place-behind c.args.ranks.now c.args.group c.args.value (subst (NoneBefore c.args.ranks.now c.args.group c.args.value) end c.loop-place.invariant))
