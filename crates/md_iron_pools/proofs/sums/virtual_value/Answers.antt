use Rattle.std.proofs.Common.{◌*◌, ◌^◌, ap, ◌∙◌, pos, sym, subst, lit<}
use Rattle.std.specs.Prelude.{slice_index}
use Rattle.md_math.specs.Sizes.{IsWithin}
use Rattle.md_math.proofs.SizeLaws.{IsWithin-*ℤ}
use Rattle.md_math.proofs.Readings.{read, read_of, widened, product_is, add_product_is, add_product_fits}
use Rattle.md_border.specs.Worth.{surplus_of}
use Rattle.md_border.proofs.WorthLaws.{surplus-within, revenue-within}
use Rattle.md_iron_pools.proofs.Bounds.{change-within, virtual-within}
use Rattle.md_iron_pools.proofs.sums.virtual_value.Goals as goal

pub add_product-requires : goal.add_product-requires
add_product-requires c =
    let a = c.args.auction.now in
    add_product_fits _ _ _ _ _ _ (1000000 * 11000000) 1000 (10 ^ 12)
    (product_is _ _ _ _ _ c.product-item.type_inv (read_of _ _ c.from.type_inv (c.from.ensures ∙ ap pos c.weight.ensures.value)) (read_of _ _ c.surplus.type_inv c.surplus.ensures.value) c.product-item.ensures.value)
    (widened _ _ _ c.from-2.type_inv c.revenue.type_inv c.from-2.ensures c.revenue.ensures.value)
    (read_of _ _ c.change.type_inv c.change.ensures.value)
    (IsWithin-*ℤ 1000000 11000000 (pos (slice_index a.weights c.args.kind)) (surplus_of a c.args.kind) (record { within = (c.weight.ensures.shaped.weight c.args.kind c.requires).1 }) (surplus-within a c.args.kind c.weight.ensures.shaped c.requires))
    (revenue-within a c.weight.ensures.shaped)
    (change-within a c.args.kind c.weight.ensures.shaped c.requires)
    (lit< tt)

pub returns-clause-value : goal.returns-clause-value
returns-clause-value c =
    read _ _
    (add_product_is _ _ _ _ _ _ _ c.add_product.type_inv
    (product_is _ _ _ _ _ c.product-item.type_inv (read_of _ _ c.from.type_inv (c.from.ensures ∙ ap pos c.weight.ensures.value)) (read_of _ _ c.surplus.type_inv c.surplus.ensures.value) c.product-item.ensures.value)
    (widened _ _ _ c.from-2.type_inv c.revenue.type_inv c.from-2.ensures c.revenue.ensures.value)
    (read_of _ _ c.change.type_inv c.change.ensures.value) c.add_product.ensures.value)

pub returns-clause-size : goal.returns-clause-size
returns-clause-size c = subst (IsWithin (2 ^ 50)) (sym (returns-clause-value c)) (virtual-within c.args.auction.now c.args.kind c.weight.ensures.shaped c.requires)
