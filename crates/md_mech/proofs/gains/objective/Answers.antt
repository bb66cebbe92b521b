use Rattle.std.proofs.Common.{◌^◌, ◌∙◌, lit<, lit≤}
use Rattle.md_math.proofs.Bits.{read_result}
use Rattle.md_mech.proofs.WorthLaws.{step_fits, step_size}
use Rattle.md_mech.proofs.gains.objective.Goals as goal

pub add_product-requires : goal.add_product-requires
add_product-requires c =
    rw (read_result c.lottery_value.result c.lottery_value.type_inv, read_result c.revenue.result c.revenue.type_inv, read_result c.payments.result c.payments.type_inv)
    (step_fits c.lottery_value.result c.revenue.result c.payments.result (2 ^ 90) 1000 (2 ^ 65) c.lottery_value.ensures.size c.revenue.ensures.size c.payments.ensures.size (lit< tt))

pub returns-clause-value : goal.returns-clause-value
returns-clause-value c =
    read_result c.add_product.result c.add_product.type_inv
    ∙ (rw (read_result c.lottery_value.result c.lottery_value.type_inv, read_result c.revenue.result c.revenue.type_inv, read_result c.payments.result c.payments.type_inv, c.lottery_value.ensures.value, c.revenue.ensures.value, c.payments.ensures.value) at c.add_product.ensures.value)

pub returns-clause-size : goal.returns-clause-size
returns-clause-size c =
    rw (read_result c.add_product.result c.add_product.type_inv)
    (step_size c.add_product.result c.lottery_value.result c.revenue.result c.payments.result (2 ^ 90) 1000 (2 ^ 65) (2 ^ 91)
    (rw (read_result c.lottery_value.result c.lottery_value.type_inv, read_result c.revenue.result c.revenue.type_inv, read_result c.payments.result c.payments.type_inv) at c.add_product.ensures.size)
    c.lottery_value.ensures.size c.revenue.ensures.size c.payments.ensures.size (lit≤ tt))
