use Rattle.std.proofs.Common.{◌-ℤ◌, ◌*ℤ◌, ap₂, ◌∙◌}
use Rattle.std.proofs.lemmas.Int.{to_z-of_z}
use mir.Syntax.{w128}
use Rattle.md_math.proofs.Bits.{read_result}
use Rattle.md_iron_values.specs.Odds.{share_den}
use Rattle.md_iron_pools.specs.Pooling.{pools_of}
use Rattle.md_iron.proofs.MultiplierLaws.{ratio-is, multiplier-cut}
use Rattle.md_iron.proofs.cut_rows.cut_multiplier.Goals as goal

pub returns-clause-multiplier : goal.returns-clause-multiplier
returns-clause-multiplier c = λ divisors e.
    let a = c.args.auction.now in
    let chord = c.chord_of-chord.ensures in
    let before = c.chord_before-before.ensures in
    let factor = to_z-of_z w128 c.args.factor c.ranges.factor in
    let divisor = to_z-of_z w128 c.args.divisor c.ranges.divisor in
    multiplier-cut a (pools_of c.args.pools.now) c.args.factor c.args.divisor divisors c.args.start c.least_terms.result e
    (ratio-is _ _ _ _ _ _ c.least_terms.ensures.value
    (read_result c.cut_num.result c.cut_num.type_inv
    ∙ c.cut_num.ensures.value
    ∙ ap₂ (λ x y. x *ℤ y) (ap₂ (λ x y. x -ℤ y) (ap₂ (λ x y. x *ℤ y) chord.rise before.weight) (ap₂ (λ x y. x *ℤ y) before.rise chord.weight)) divisor)
    (read_result c.cut_den.result c.cut_den.type_inv
    ∙ c.cut_den.ensures.value
    ∙ ap₂ (λ x y. x *ℤ (share_den a *ℤ y)) (ap₂ (λ x y. x *ℤ y) chord.weight before.weight) factor))
