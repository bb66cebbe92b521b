use Rattle.std.proofs.Common.{◌≡◌, ◌*◌, ◌*ℤ◌, sym, subst, arith, lit<, mul-le-mul}
use Rattle.md_math.specs.Sizes.{IsWithin}
use Rattle.md_math.proofs.Bits.{read_result, read_within}
use Rattle.md_math.proofs.SizeLaws.{IsWithin-*ℤ}
use Rattle.md_rows.proofs.costs.revenue_cost.Goals as goal

pub product-requires-2 : goal.product-requires-2
product-requires-2 c =
    let value : c.product.result ≡ c.weight.result *ℤ c.revenue.result = rw (read_result c.weight.result c.weight.type_inv, read_result c.revenue.result c.revenue.type_inv) at c.product.ensures.value in
    let small : IsWithin (1000000 * 1000) c.product.result = subst (IsWithin (1000000 * 1000)) (sym value) (IsWithin-*ℤ 1000000 1000 c.weight.result c.revenue.result c.weight.ensures.size c.revenue.ensures.size) in
    rw (read_within 1 c.args.sign c.requires.sign (lit< tt), read_result c.product.result c.product.type_inv)
    (omega (arith, mul-le-mul c.requires.sign.within small.within))
