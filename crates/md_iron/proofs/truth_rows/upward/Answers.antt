use Rattle.std.proofs.Common.{◌^◌, ◌*ℤ◌, ap₂, ◌∙◌, lit<}
use Rattle.std.proofs.lemmas.Int.{to_z-of_z}
use mir.Syntax.{w128}
use Rattle.md_math.proofs.Bits.{read_result, read_within}
use Rattle.md_iron.proofs.MultiplierLaws.{ratio-is}
use Rattle.md_iron.proofs.truth_rows.upward.Goals as goal

pub returns-clause-value : goal.returns-clause-value
returns-clause-value c =
    ratio-is _ _ _ _ _ _ c.least_terms.ensures.value
    (read_within (2 ^ 76) _ c.chord_gap-gap.ensures.height_size (lit< tt) ∙ c.chord_gap-gap.ensures.height)
    (read_result c.step_den-den.result c.step_den-den.type_inv
    ∙ c.step_den-den.ensures.value
    ∙ ap₂ (λ x y. x *ℤ y) (read_within 1000000 _ c.chord_gap-gap.ensures.scale_size (lit< tt) ∙ c.chord_gap-gap.ensures.scale)
    (ap₂ (λ x y. x *ℤ y) (read_result c.apart.result c.apart.type_inv ∙ c.apart.ensures.value) (to_z-of_z w128 c.args.factor c.ranges.factor)))
