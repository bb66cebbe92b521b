use Rattle.std.proofs.Common.{lit<}
use Rattle.md_math.proofs.Bits.{read_result, read_within}
use Rattle.md_asym_sale.proofs.CostLaws.{pay-fits}
use Rattle.md_asym_sale.proofs.costs.pay_cost.Goals as goal

pub product-requires-2 : goal.product-requires-2
product-requires-2 c =
    rw (read_within 1 c.args.sign c.requires.sign (lit< tt), read_result c.product.result c.product.type_inv)
    (pay-fits c.args.sign c.marginal_at.result c.revenue.result c.product.result c.requires.sign c.marginal_at.ensures.size c.revenue.ensures.size
    (rw (read_result c.marginal_at.result c.marginal_at.type_inv, read_result c.revenue.result c.revenue.type_inv) at c.product.ensures.value))
