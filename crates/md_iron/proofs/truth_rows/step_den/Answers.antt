use Rattle.std.proofs.Common.{◌*◌, ◌^◌, pos, ◌*ℤ◌, ◌<ℤ◌, sym, subst, arith, lit<}
use Rattle.md_math.specs.Sizes.{IsWithin}
use Rattle.md_math.proofs.Order.{positive-*ℤ}
use Rattle.md_math.proofs.Readings.{IsRead, read, read_small, product_fits, product_is}
use Rattle.md_math.proofs.SizeLaws.{IsWithin-*ℤ}
use Rattle.md_iron.proofs.truth_rows.step_den.Goals as goal

pub product-requires : goal.product-requires
product-requires c =
    product_fits _ _ _ _ 1000000 (2 ^ 44) (read_small 1000000 _ c.requires.step_size (lit< tt)) (read_small (2 ^ 44) _ c.requires.factor_size (lit< tt)) c.requires.step_size c.requires.factor_size (lit< tt)

inner : (c : goal.After-product) → IsRead c.product.result (c.args.step *ℤ c.args.factor)
inner c =
    product_is _ _ _ _ _ c.product.type_inv (read_small 1000000 _ c.requires.step_size (lit< tt)) (read_small (2 ^ 44) _ c.requires.factor_size (lit< tt)) c.product.ensures.value

inner-small : (c : goal.After-product) → IsWithin (1000000 * 2 ^ 44) (c.args.step *ℤ c.args.factor)
inner-small c = IsWithin-*ℤ 1000000 (2 ^ 44) c.args.step c.args.factor c.requires.step_size c.requires.factor_size

pub product-requires-2 : goal.product-requires-2
product-requires-2 c =
    product_fits _ _ _ _ 1000000 (1000000 * 2 ^ 44) (read_small 1000000 _ c.requires.scale_size (lit< tt)) (inner c) c.requires.scale_size (inner-small c) (lit< tt)

whole : (c : goal.After-product-2) → IsRead c.product-2.result (c.args.scale *ℤ (c.args.step *ℤ c.args.factor))
whole c =
    product_is _ _ _ _ _ c.product-2.type_inv (read_small 1000000 _ c.requires.scale_size (lit< tt))
    (product_is _ _ _ _ _ c.product.type_inv (read_small 1000000 _ c.requires.step_size (lit< tt)) (read_small (2 ^ 44) _ c.requires.factor_size (lit< tt)) c.product.ensures.value)
    c.product-2.ensures.value

pub returns-clause-value : goal.returns-clause-value
returns-clause-value c = read _ _ (whole c)

pub returns-clause-positive : goal.returns-clause-positive
returns-clause-positive c =
    subst (λ z. pos 0 <ℤ z) (sym (read _ _ (whole c))) (positive-*ℤ c.args.scale (c.args.step *ℤ c.args.factor) c.requires.scale (positive-*ℤ c.args.step c.args.factor c.requires.step c.requires.factor))

pub returns-clause-size : goal.returns-clause-size
returns-clause-size c =
    let small : IsWithin (1000000 * (1000000 * 2 ^ 44)) (c.args.scale *ℤ (c.args.step *ℤ c.args.factor)) =
    IsWithin-*ℤ 1000000 (1000000 * 2 ^ 44) c.args.scale (c.args.step *ℤ c.args.factor) c.requires.scale_size (IsWithin-*ℤ 1000000 (2 ^ 44) c.args.step c.args.factor c.requires.step_size c.requires.factor_size) in
    rw (read _ _ (whole c)) (omega (arith, small.within))
