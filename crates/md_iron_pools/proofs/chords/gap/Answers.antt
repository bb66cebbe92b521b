use Rattle.std.proofs.Common.{◌^◌, ◌-ℤ◌, ◌*ℤ◌, ap₂, ◌∙◌, sym, subst}
use Rattle.md_math.specs.Sizes.{IsWithin}
use Rattle.md_math.proofs.Bits.{read_result}
use Rattle.md_math.proofs.Readings.{read, read_of}
use Rattle.md_iron_pools.proofs.Bounds.{gap-within}
use Rattle.md_iron_pools.proofs.chords.gap.Goals as goal

pub returns-clause-value : goal.returns-clause-value
returns-clause-value c =
    read_result c.cross_difference.result c.cross_difference.type_inv
    ∙ c.cross_difference.ensures.value
    ∙ ap₂ (λ x y. x -ℤ y)
    (ap₂ (λ x y. x *ℤ y) (read _ _ (read_of _ _ c.virtual_between.type_inv c.virtual_between.ensures.value)) (read _ _ (read_of _ _ c.weight_between.type_inv c.weight_between.ensures.value)))
    (ap₂ (λ x y. x *ℤ y) (read _ _ (read_of _ _ c.virtual_between-2.type_inv c.virtual_between-2.ensures.value)) (read _ _ (read_of _ _ c.weight_between-2.type_inv c.weight_between-2.ensures.value)))

pub returns-clause-size : goal.returns-clause-size
returns-clause-size c =
    subst (IsWithin (2 ^ 76)) (sym (returns-clause-value c))
    (gap-within c.args.auction.now c.args.first c.args.stop c.args.place c.weight_between.ensures.shaped c.requires.first c.requires.stop c.requires.place)
