use Rattle.std.proofs.Common.{◌≡◌, ◌+◌, ◌*◌, ◌≤ℤ◌, to_z, ap, ◌∙◌, arith}
use Rattle.std.specs.Prelude.{◌-ℤ◌}
use Rattle.std.proofs.lemmas.Int.{to_z-of_z, ints}
use mir.Syntax.{w128}
use Rattle.md_math.specs.Sums.{sum_to}
use Rattle.md_math.proofs.Bits.{read_result}
use Rattle.md_math.proofs.SumLaws.{sum_to-more}
use Rattle.md_mech.proofs.WholeLaws.{not_both, taken, stays_nonneg, not_less}
use Rattle.md_run.specs.Lottery.{chances_from}
use Rattle.md_run.proofs.OutcomeLaws.{none-more}
use Rattle.md_run.proofs.lottery.drawn_place.Goals as goal

pub loop-place-preserved : goal.loop-place-preserved
loop-place-preserved c =
    let f = chances_from c.args.rows.now (c.args.row * c.args.places) in
    let draw = to_z-of_z w128 c.args.draw c.ranges.draw in
    let chance = read_result c.get-chance.result c.get-chance.type_inv in
    let left : to_z w128 c.loop-place.left-bits ≡ c.args.draw -ℤ sum_to c.loop-place.place f = c.loop-place.invariant.0 ∙ ap (λ d. d -ℤ sum_to c.loop-place.place f) draw in
    let value : c.difference-left.result ≡ to_z w128 c.loop-place.left-bits -ℤ c.get-chance.result = rw chance at c.difference-left.ensures in
    let least : c.get-chance.result ≤ℤ to_z w128 c.loop-place.left-bits =
    not_less (to_z w128 c.loop-place.left-bits) c.get-chance.result (λ h. not_both (c.if-is_below.ensures.1 (rw chance h))) in
    let sum : sum_to (c.loop-place.place + 1) f ≤ℤ c.args.draw = omega (arith, ints, sum_to-more c.loop-place.place f, c.get-chance.ensures, left, least) in
    rw (read_result c.difference-left.result c.difference-left.type_inv, draw, value) (
      taken c.args.draw _ c.get-chance.result c.loop-place.place f left c.get-chance.ensures,
      stays_nonneg _ c.get-chance.result least,
      none-more c.loop-place.place f c.args.draw (rw draw at c.loop-place.invariant.2) sum,
    )
