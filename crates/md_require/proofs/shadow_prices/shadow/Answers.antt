use Rattle.std.proofs.Common.{◌≡◌, Bool, true, false, not, IsTrue, refl, ◌*◌, ◌^◌, pos, ◌*ℤ◌, ◌<ℤ◌, mul-le-mul, subst, sym, lit<, arith}
use Rattle.std.proofs.lemmas.Int.{to_z-of_z}
use mir.Syntax.{w128}
use Rattle.md_math.specs.Sizes.{IsWithin}
use Rattle.md_math.proofs.Bits.{read_result, read_within}
use Rattle.md_math.proofs.Order.{positive-*ℤ}
use Rattle.md_setting.specs.Meaning.{total_of}
use Rattle.md_mech.specs.Accepted.{number_limit}
use Rattle.md_require.specs.RequireProgram.{at_most_by}
use Rattle.md_require.proofs.PriceLaws.{told-firm}
use Rattle.md_require.proofs.ShortLaws.{within-product}
use Rattle.md_require.proofs.shadow_prices.shadow.Goals as goal

unturned : (b : Bool) → not b ≡ false → IsTrue b
unturned true e = refl
unturned false e = cc

pub product-requires-2 : goal.product-requires-2
product-requires-2 c =
    let value = rw (read_result c.total.result c.total.type_inv, to_z-of_z w128 c.args.by c.ranges.by) at c.product.ensures.value in
    let inner : IsWithin (1000000 * 2 ^ 44) c.product.result = within-product 1000000 (2 ^ 44) c.total.result c.args.by c.product.result value c.total.ensures.size c.requires.by_size in
    rw (to_z-of_z w128 c.args.over c.ranges.over, read_result c.product.result c.product.type_inv) (omega (arith, mul-le-mul c.requires.over.size.within inner.within))

pub short_product-requires-clause-positive : goal.short_product-requires-clause-positive
short_product-requires-clause-positive c =
    let inner = rw (read_result c.total.result c.total.type_inv, to_z-of_z w128 c.args.by c.ranges.by) at c.product.ensures.value in
    let value = rw (to_z-of_z w128 c.args.over c.ranges.over, read_result c.product.result c.product.type_inv) at c.product-2.ensures.value in
    let some : pos 0 <ℤ c.product.result = subst (λ z. pos 0 <ℤ z) (sym inner) (positive-*ℤ c.total.result c.args.by c.total.ensures.positive c.requires.by.positive) in
    rw (read_result c.product-2.result c.product-2.type_inv) (subst (λ z. pos 0 <ℤ z) (sym value) (positive-*ℤ c.args.over c.product.result c.requires.over.positive some))

pub short_product-requires-clause-left_size : goal.short_product-requires-clause-left_size
short_product-requires-clause-left_size c =
    let k = c.args.condition.now in
    let side = (rw (read_within number_limit k.den c.requires.condition.den_size (lit< tt)) at c.at_most.ensures.size) number_limit c.requires.condition.den_size in
    let value = rw (to_z-of_z w128 c.args.factor c.ranges.factor, read_result c.at_most.result c.at_most.type_inv) at c.product-scale.ensures.value in
    let size : IsWithin (2 ^ 44 * number_limit) c.product-scale.result = within-product (2 ^ 44) number_limit c.args.factor c.at_most.result c.product-scale.result value c.requires.factor_size side in
    rw (read_result c.product-scale.result c.product-scale.type_inv) (omega (arith, size.within))

pub short_product-requires-clause-den_size : goal.short_product-requires-clause-den_size
short_product-requires-clause-den_size c =
    let inner_value = rw (read_result c.total.result c.total.type_inv, to_z-of_z w128 c.args.by c.ranges.by) at c.product.ensures.value in
    let value = rw (to_z-of_z w128 c.args.over c.ranges.over, read_result c.product.result c.product.type_inv) at c.product-2.ensures.value in
    let inner : IsWithin (1000000 * 2 ^ 44) c.product.result = within-product 1000000 (2 ^ 44) c.total.result c.args.by c.product.result inner_value c.total.ensures.size c.requires.by_size in
    let size : IsWithin (number_limit * (1000000 * 2 ^ 44)) c.product-2.result = within-product number_limit (1000000 * 2 ^ 44) c.args.over c.product.result c.product-2.result value c.requires.over.size inner in
    rw (read_result c.product-2.result c.product-2.type_inv) (omega (arith, size.within))

pub returns : goal.returns
returns c = λ main face sum_is firm_is.
    let s = c.args.setting.now in
    let k = c.args.condition.now in
    let side : c.at_most.result ≡ at_most_by k.side k.den = rw (read_within number_limit k.den c.requires.condition.den_size (lit< tt)) at c.at_most.ensures.value in
    let up : c.product-scale.result ≡ c.args.factor *ℤ at_most_by k.side k.den =
    (rw (to_z-of_z w128 c.args.factor c.ranges.factor, read_result c.at_most.result c.at_most.type_inv, side) at c.product-scale.ensures.value) in
    let inner = rw (read_result c.total.result c.total.type_inv, to_z-of_z w128 c.args.by c.ranges.by, c.total.ensures.value) at c.product.ensures.value in
    let down : c.product-2.result ≡ c.args.over *ℤ (total_of s *ℤ c.args.by) =
    (rw (to_z-of_z w128 c.args.over c.ranges.over, read_result c.product.result c.product.type_inv, inner) at c.product-2.ensures.value) in
    let told = rw (read_result c.product-scale.result c.product-scale.type_inv, read_result c.product-2.result c.product-2.type_inv, up, down, read_within (2 ^ 94) c.args.price.sum c.requires.sum_size (lit< tt)) at c.short_product.ensures in
    let whole : pos 0 <ℤ total_of s = subst (λ z. pos 0 <ℤ z) c.total.ensures.value c.total.ensures.positive in
    let above : pos 0 <ℤ (c.args.over *ℤ (total_of s *ℤ c.args.by)) = positive-*ℤ c.args.over (total_of s *ℤ c.args.by) c.requires.over.positive (positive-*ℤ (total_of s) c.args.by whole c.requires.by.positive) in
    told-firm s k c.args.over c.args.factor c.args.by c.args.price.sum main face c.requires.factor c.requires.by sum_is c.short_product.result above (firm_is.0 (unturned c.args.price.firm c.if-not-price.false)) told
