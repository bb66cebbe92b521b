use Rattle.std.proofs.Common.{◌≡◌, unsigned_abs, ap, ◌∙◌, arith}
use Rattle.std.proofs.lemmas.Int.{ints, to_z-of_z}
use mir.Syntax.{w128}
use Rattle.md_dict.proofs.LeastMultiples.{divides_by_rest}
use Rattle.md_dict.proofs.multiples.divides.Goals as goal

pub returns-then-divisor-from : goal.returns-then-divisor-from
returns-then-divisor-from c =
    let size : c.unsigned_abs-size.result ≡ unsigned_abs c.args.multiple = c.unsigned_abs-size.ensures.value ∙ ap unsigned_abs (to_z-of_z w128 c.args.multiple c.ranges.multiple) in
    let divisor : c.unsigned_abs-divisor.result ≡ unsigned_abs c.args.den = c.unsigned_abs-divisor.ensures.value ∙ ap unsigned_abs (to_z-of_z w128 c.args.den c.ranges.den) in
    divides_by_rest c.args.den c.args.multiple c.unsigned_abs-size.result c.unsigned_abs-divisor.result size divisor (omega (arith, ints, divisor, c.requires.positive))

pub returns-else-size-from : goal.returns-else-size-from
returns-else-size-from c =
    let size : c.unsigned_abs-size.result ≡ unsigned_abs c.args.multiple = c.unsigned_abs-size.ensures.value ∙ ap unsigned_abs (to_z-of_z w128 c.args.multiple c.ranges.multiple) in
    let divisor : c.unsigned_abs-divisor.result ≡ unsigned_abs c.args.den = c.unsigned_abs-divisor.ensures.value ∙ ap unsigned_abs (to_z-of_z w128 c.args.den c.ranges.den) in
    divides_by_rest c.args.den c.args.multiple c.unsigned_abs-size.result c.unsigned_abs-divisor.result size divisor (omega (arith, ints, divisor, c.requires.positive))
