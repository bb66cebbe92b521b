use Rattle.std.proofs.Common.{◌≡◌, ◌*◌, ◌≤◌, ◌<◌, ◌^◌, ◌*ℤ◌, unsigned_abs, mul-le-mul, ap₂, sym, ◌∙◌, arith}
use Rattle.md_math.proofs.Bits.{read_result}
use Rattle.md_asym_sale.proofs.sale.is_independent_at.Goals as goal

pub product-requires : goal.product-requires
product-requires c =
    let most : unsigned_abs c.weight.result * unsigned_abs c.total_of_others.result ≤ 1000000 * 10 ^ 30 = mul-le-mul c.weight.ensures.size.within c.total_of_others.ensures.size.within in
    rw (read_result c.weight.result c.weight.type_inv, read_result c.total_of_others.result c.total_of_others.type_inv) (omega (arith, most))

pub returns : goal.returns
returns c =
    let left = read_result c.product.result c.product.type_inv
    ∙ (rw (read_result c.weight.result c.weight.type_inv, read_result c.total_of_others.result c.total_of_others.type_inv) at c.product.ensures.value)
    ∙ ap₂ (λ x y. x *ℤ y) c.weight.ensures.value c.total_of_others.ensures.value in
    let right = read_result c.type_weights.result c.type_weights.type_inv ∙ c.type_weights.ensures.value in (
      λ h. sym left ∙ c.is_same.ensures.0 h ∙ right,
      λ e. c.is_same.ensures.1 (left ∙ e ∙ sym right),
    )
