use Rattle.std.proofs.Common.{◌≡◌, ◌+◌, ◌*◌, ◌^◌, ℤ, ◌+ℤ◌, ◌*ℤ◌, subst, ◌∙◌, arith, lit<}
use Rattle.md_math.specs.Sizes.{IsWithin}
use Rattle.md_math.proofs.Readings.{IsRead, read, read_small, read_of, widened, product_fits, product_is, add_product_fits, add_product_is}
use Rattle.md_math.proofs.Ring.{linear}
use Rattle.md_math.proofs.SizeLaws.{IsWithin-*ℤ, IsWithin-+ℤ}
use Rattle.md_border.proofs.WorthLaws.{revenue-within}
use Rattle.md_iron_values.specs.VirtualValues.{weight_from}
use Rattle.md_iron.proofs.truth_rows.downward_num.Goals as goal

pub product-requires : goal.product-requires
product-requires c =
    product_fits _ _ _ _ 1000000 1000000 (read_small 1000000 _ c.requires.scale (lit< tt)) (read_small 1000000 _ c.requires.step (lit< tt)) c.requires.scale c.requires.step (lit< tt)

inner : (c : goal.After-product) → IsRead c.product.result (c.args.scale *ℤ c.args.step)
inner c = product_is _ _ _ _ _ c.product.type_inv (read_small 1000000 _ c.requires.scale (lit< tt)) (read_small 1000000 _ c.requires.step (lit< tt)) c.product.ensures.value

weight : (c : goal.After-product) → IsRead c.weight_from.result (weight_from c.args.auction.now c.args.kind)
weight c = read_of _ _ c.weight_from.type_inv c.weight_from.ensures.value

weight-small : (c : goal.After-product) → IsWithin 1000000 (weight_from c.args.auction.now c.args.kind)
weight-small c = subst (IsWithin 1000000) c.weight_from.ensures.value c.weight_from.ensures.size

pub product-paid-requires : goal.product-paid-requires
product-paid-requires c =
    product_fits _ _ _ _ 1000000 (1000000 * 1000000) (weight c) (inner c) (weight-small c) (IsWithin-*ℤ 1000000 1000000 c.args.scale c.args.step c.requires.scale c.requires.step) (lit< tt)

paid : (c : goal.After-from) → IsRead c.product-paid.result (weight_from c.args.auction.now c.args.kind *ℤ (c.args.scale *ℤ c.args.step))
paid c =
    product_is _ _ _ _ _ c.product-paid.type_inv (read_of _ _ c.weight_from.type_inv c.weight_from.ensures.value)
    (product_is _ _ _ _ _ c.product.type_inv (read_small 1000000 _ c.requires.scale (lit< tt)) (read_small 1000000 _ c.requires.step (lit< tt)) c.product.ensures.value)
    c.product-paid.ensures.value

paid-small : (c : goal.After-from) → IsWithin (1000000 * (1000000 * 1000000)) (weight_from c.args.auction.now c.args.kind *ℤ (c.args.scale *ℤ c.args.step))
paid-small c =
    IsWithin-*ℤ 1000000 (1000000 * 1000000) (weight_from c.args.auction.now c.args.kind) (c.args.scale *ℤ c.args.step)
    (subst (IsWithin 1000000) c.weight_from.ensures.value c.weight_from.ensures.size) (IsWithin-*ℤ 1000000 1000000 c.args.scale c.args.step c.requires.scale c.requires.step)

pub add_product-requires : goal.add_product-requires
add_product-requires c =
    add_product_fits _ _ _ _ _ _ (2 ^ 76) 1000 (1000000 * (1000000 * 1000000)) (read_small (2 ^ 76) _ c.requires.height (lit< tt))
    (widened _ _ _ c.from.type_inv c.revenue.type_inv c.from.ensures c.revenue.ensures.value) (paid c) c.requires.height (revenue-within c.args.auction.now c.revenue.ensures.shaped) (paid-small c) (lit< tt)

whole : (c : goal.After-add_product) → IsRead c.add_product.result (c.args.height +ℤ c.args.auction.now.revenue *ℤ (weight_from c.args.auction.now c.args.kind *ℤ (c.args.scale *ℤ c.args.step)))
whole c =
    add_product_is _ _ _ _ _ _ _ c.add_product.type_inv (read_small (2 ^ 76) _ c.requires.height (lit< tt))
    (widened _ _ _ c.from.type_inv c.revenue.type_inv c.from.ensures c.revenue.ensures.value)
    (product_is _ _ _ _ _ c.product-paid.type_inv (read_of _ _ c.weight_from.type_inv c.weight_from.ensures.value)
    (product_is _ _ _ _ _ c.product.type_inv (read_small 1000000 _ c.requires.scale (lit< tt)) (read_small 1000000 _ c.requires.step (lit< tt)) c.product.ensures.value)
    c.product-paid.ensures.value)
    c.add_product.ensures.value

pub returns-clause-value : goal.returns-clause-value
returns-clause-value c =
    read _ _ (whole c) ∙ turned c.args.height (c.args.auction.now.revenue *ℤ (weight_from c.args.auction.now c.args.kind *ℤ (c.args.scale *ℤ c.args.step)))
  where
    turned : (x y : ℤ) → x +ℤ y ≡ y +ℤ x
    turned x y = omega (arith, linear)

pub returns-clause-size : goal.returns-clause-size
returns-clause-size c =
    let a = c.args.auction.now in
    let paid_small : IsWithin (1000000 * (1000000 * 1000000)) (weight_from a c.args.kind *ℤ (c.args.scale *ℤ c.args.step)) =
    IsWithin-*ℤ 1000000 (1000000 * 1000000) (weight_from a c.args.kind) (c.args.scale *ℤ c.args.step)
    (subst (IsWithin 1000000) c.weight_from.ensures.value c.weight_from.ensures.size) (IsWithin-*ℤ 1000000 1000000 c.args.scale c.args.step c.requires.scale c.requires.step) in
    let small : IsWithin (2 ^ 76 + 1000 * (1000000 * (1000000 * 1000000))) (c.args.height +ℤ a.revenue *ℤ (weight_from a c.args.kind *ℤ (c.args.scale *ℤ c.args.step))) =
    IsWithin-+ℤ (2 ^ 76) (1000 * (1000000 * (1000000 * 1000000))) c.args.height (a.revenue *ℤ (weight_from a c.args.kind *ℤ (c.args.scale *ℤ c.args.step))) c.requires.height
    (IsWithin-*ℤ 1000 (1000000 * (1000000 * 1000000)) a.revenue (weight_from a c.args.kind *ℤ (c.args.scale *ℤ c.args.step)) (revenue-within a c.revenue.ensures.shaped) paid_small) in
    rw (read _ _ (whole c)) (omega (arith, small.within))
