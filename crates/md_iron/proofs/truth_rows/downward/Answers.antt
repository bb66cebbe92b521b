use Rattle.std.proofs.Common.{◌^◌, ◌+ℤ◌, ◌*ℤ◌, ap₂, ◌∙◌, lit<}
use Rattle.std.proofs.lemmas.Int.{to_z-of_z}
use mir.Syntax.{w128}
use Rattle.md_math.proofs.Bits.{read_result, read_within}
use Rattle.md_iron_values.specs.VirtualValues.{weight_from}
use Rattle.md_iron.proofs.MultiplierLaws.{ratio-is}
use Rattle.md_iron.proofs.truth_rows.downward.Goals as goal

pub returns-clause-value : goal.returns-clause-value
returns-clause-value c =
    let a = c.args.auction.now in
    let scale = read_within 1000000 c.chord_gap-gap.result.scale c.chord_gap-gap.ensures.scale_size (lit< tt) ∙ c.chord_gap-gap.ensures.scale in
    let step = read_result c.apart-step.result c.apart-step.type_inv ∙ c.apart-step.ensures.value in
    ratio-is _ _ _ _ _ _ c.least_terms.ensures.value
    (read_result c.downward_num-num.result c.downward_num-num.type_inv
    ∙ c.downward_num-num.ensures.value
    ∙ ap₂ (λ x y. a.revenue *ℤ (weight_from a c.args.kind *ℤ x) +ℤ y) (ap₂ (λ x y. x *ℤ y) scale step) (read_within (2 ^ 76) _ c.chord_gap-gap.ensures.height_size (lit< tt) ∙ c.chord_gap-gap.ensures.height))
    (read_result c.step_den.result c.step_den.type_inv ∙ c.step_den.ensures.value ∙ ap₂ (λ x y. x *ℤ y) scale (ap₂ (λ x y. x *ℤ y) step (to_z-of_z w128 c.args.factor c.ranges.factor)))
