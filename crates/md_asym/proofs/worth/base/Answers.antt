use Rattle.std.proofs.Common.{◌^◌, ◌∙◌, sym, subst}
use Rattle.md_math.specs.Sizes.{IsWithin}
use Rattle.md_math.proofs.Readings.{read, read_of, product_is}
use Rattle.md_space.specs.Profiles.{profile_at}
use Rattle.md_space.proofs.Walks.{profile_count-pos}
use Rattle.md_setting.specs.Meaning.{sizes_of}
use Rattle.md_asym_sale.proofs.SaleLaws.{first-profile, value-kept}
use Rattle.md_asym.proofs.GainLaws.{base-within}
use Rattle.md_asym.proofs.worth.base.Goals as goal

pub value-requires-clause-rank_in : goal.value-requires-clause-rank_in
value-requires-clause-rank_in c = profile_count-pos (sizes_of c.args.setting.now) c.total-total.ensures.shaped.listed.space.some_type

pub returns-clause-value : goal.returns-clause-value
returns-clause-value c =
    let s = c.args.setting.now in
    read _ _
    (product_is _ _ _ _ _ c.product.type_inv
    (read_of _ _ c.value.type_inv (c.value.ensures.value ∙ value-kept s (profile_at (sizes_of s) 0) c.requires (first-profile s c.total-total.ensures.shaped)))
    (read_of _ _ c.total-total.type_inv c.total-total.ensures.value) c.product.ensures.value)

pub returns-clause-size : goal.returns-clause-size
returns-clause-size c = subst (IsWithin (10 ^ 13)) (sym (returns-clause-value c)) (base-within c.args.setting.now c.total-total.ensures.shaped)
