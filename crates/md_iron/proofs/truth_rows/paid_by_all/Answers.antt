use Rattle.std.proofs.Common.{◌*◌, pos, ◌*ℤ◌, arith, lit<}
use Rattle.md_math.specs.Sizes.{IsWithin}
use Rattle.md_math.proofs.Readings.{IsRead, read, widened, product_fits, product_is}
use Rattle.md_math.proofs.SizeLaws.{IsWithin-*ℤ}
use Rattle.md_border.proofs.WorthLaws.{revenue-within}
use Rattle.md_setting.specs.Auction.{total_weight}
use Rattle.md_iron.proofs.truth_rows.paid_by_all.Goals as goal

revenue : (c : goal.After-from-2) → IsRead c.from.result c.args.auction.now.revenue
revenue c = widened _ _ _ c.from.type_inv c.revenue.type_inv c.from.ensures c.revenue.ensures.value

total : (c : goal.After-from-2) → IsRead c.from-2.result (pos (total_weight c.args.auction.now.weights))
total c = widened _ _ _ c.from-2.type_inv c.total.type_inv c.from-2.ensures c.total.ensures.value

total-within : (c : goal.After-from-2) → IsWithin 1000000 (pos (total_weight c.args.auction.now.weights))
total-within c = record { within = c.total.ensures.shaped.total }

pub product-requires : goal.product-requires
product-requires c = product_fits _ _ _ _ 1000 1000000 (revenue c) (total c) (revenue-within c.args.auction.now c.total.ensures.shaped) (total-within c) (lit< tt)

value : (c : goal.After-product) → IsRead c.product.result (c.args.auction.now.revenue *ℤ pos (total_weight c.args.auction.now.weights))
value c =
    product_is _ _ _ _ _ c.product.type_inv (widened _ _ _ c.from.type_inv c.revenue.type_inv c.from.ensures c.revenue.ensures.value)
    (widened _ _ _ c.from-2.type_inv c.total.type_inv c.from-2.ensures c.total.ensures.value) c.product.ensures.value

pub returns-clause-value : goal.returns-clause-value
returns-clause-value c = read _ _ (value c)

pub returns-clause-size : goal.returns-clause-size
returns-clause-size c =
    let small : IsWithin (1000 * 1000000) (c.args.auction.now.revenue *ℤ pos (total_weight c.args.auction.now.weights)) =
    IsWithin-*ℤ 1000 1000000 _ _ (revenue-within c.args.auction.now c.total.ensures.shaped) (record { within = c.total.ensures.shaped.total }) in
    rw (read _ _ (value c)) (omega (arith, small.within))
