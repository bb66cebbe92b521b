use Rattle.std.proofs.Common.{◌*◌, ◌^◌, pos, ◌*ℤ◌, ◌<ℤ◌, sym, subst, arith, lit<}
use Rattle.md_math.specs.Sizes.{IsWithin}
use Rattle.md_math.proofs.Order.{positive-*ℤ}
use Rattle.md_math.proofs.Readings.{IsRead, read, read_of, read_small, product_fits, product_is}
use Rattle.md_math.proofs.SizeLaws.{IsWithin-*ℤ}
use Rattle.md_iron_values.specs.Odds.{share_den}
use Rattle.md_iron.proofs.cut_rows.cut_den.Goals as goal

pub product-weights-requires : goal.product-weights-requires
product-weights-requires c =
    product_fits _ _ _ _ 1000000 1000000 (read_small 1000000 _ c.requires.weight (lit< tt)) (read_small 1000000 _ c.requires.weight_before (lit< tt)) c.requires.weight c.requires.weight_before (lit< tt)

pub product-requires : goal.product-requires
product-requires c =
    product_fits _ _ _ _ (4 * 10 ^ 12) (2 ^ 44) (read_of _ _ c.share_of_all.type_inv c.share_of_all.ensures.value) (read_small (2 ^ 44) _ c.requires.factor (lit< tt))
    (subst (IsWithin (4 * 10 ^ 12)) c.share_of_all.ensures.value c.share_of_all.ensures.size) c.requires.factor (lit< tt)

weights : (c : goal.After-product) → IsRead c.product-weights.result (c.args.chord.now.weight *ℤ c.args.before.now.weight)
weights c = product_is _ _ _ _ _ c.product-weights.type_inv (read_small 1000000 _ c.requires.weight (lit< tt)) (read_small 1000000 _ c.requires.weight_before (lit< tt)) c.product-weights.ensures.value

shares : (c : goal.After-product) → IsRead c.product.result (share_den c.args.auction.now *ℤ c.args.factor)
shares c = product_is _ _ _ _ _ c.product.type_inv (read_of _ _ c.share_of_all.type_inv c.share_of_all.ensures.value) (read_small (2 ^ 44) _ c.requires.factor (lit< tt)) c.product.ensures.value

pub product-requires-2 : goal.product-requires-2
product-requires-2 c =
    product_fits _ _ _ _ (1000000 * 1000000) (4 * 10 ^ 12 * 2 ^ 44) (weights c) (shares c)
    (IsWithin-*ℤ 1000000 1000000 _ _ c.requires.weight c.requires.weight_before)
    (IsWithin-*ℤ (4 * 10 ^ 12) (2 ^ 44) _ _ (subst (IsWithin (4 * 10 ^ 12)) c.share_of_all.ensures.value c.share_of_all.ensures.size) c.requires.factor) (lit< tt)

whole : (c : goal.After-product-2) → IsRead c.product-2.result ((c.args.chord.now.weight *ℤ c.args.before.now.weight) *ℤ (share_den c.args.auction.now *ℤ c.args.factor))
whole c =
    product_is _ _ _ _ _ c.product-2.type_inv
    (product_is _ _ _ _ _ c.product-weights.type_inv (read_small 1000000 _ c.requires.weight (lit< tt)) (read_small 1000000 _ c.requires.weight_before (lit< tt)) c.product-weights.ensures.value)
    (product_is _ _ _ _ _ c.product.type_inv (read_of _ _ c.share_of_all.type_inv c.share_of_all.ensures.value) (read_small (2 ^ 44) _ c.requires.factor (lit< tt)) c.product.ensures.value)
    c.product-2.ensures.value

pub returns-clause-value : goal.returns-clause-value
returns-clause-value c = read _ _ (whole c)

pub returns-clause-positive : goal.returns-clause-positive
returns-clause-positive c =
    subst (λ z. pos 0 <ℤ z) (sym (read _ _ (whole c)))
    (positive-*ℤ (c.args.chord.now.weight *ℤ c.args.before.now.weight) (share_den c.args.auction.now *ℤ c.args.factor)
    (positive-*ℤ c.args.chord.now.weight c.args.before.now.weight c.requires.weight_positive c.requires.before_positive)
    (positive-*ℤ (share_den c.args.auction.now) c.args.factor (subst (λ z. pos 0 <ℤ z) c.share_of_all.ensures.value c.share_of_all.ensures.positive) c.requires.factor_positive))

pub returns-clause-size : goal.returns-clause-size
returns-clause-size c =
    let small : IsWithin (1000000 * 1000000 * (4 * 10 ^ 12 * 2 ^ 44)) ((c.args.chord.now.weight *ℤ c.args.before.now.weight) *ℤ (share_den c.args.auction.now *ℤ c.args.factor)) =
    IsWithin-*ℤ (1000000 * 1000000) (4 * 10 ^ 12 * 2 ^ 44) _ _ (IsWithin-*ℤ 1000000 1000000 _ _ c.requires.weight c.requires.weight_before)
    (IsWithin-*ℤ (4 * 10 ^ 12) (2 ^ 44) _ _ (subst (IsWithin (4 * 10 ^ 12)) c.share_of_all.ensures.value c.share_of_all.ensures.size) c.requires.factor) in
    rw (read _ _ (whole c)) (omega (arith, small.within))
