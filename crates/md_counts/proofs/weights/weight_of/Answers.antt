use Rattle.std.proofs.Common.{◌≡◌, ◌*◌, ap₂, ◌∙◌, arith}
use Rattle.md_counts.specs.Weights.{weight_of_counts}
use Rattle.md_counts.proofs.WeightLaws.{orders-times_powers, weight_of_counts-le}
use Rattle.md_counts.proofs.weights.weight_of.Goals as goal

pub overflow_mul-result : goal.overflow_mul-result
overflow_mul-result c =
    let value : c.orders_of.result * c.powers.result ≡ weight_of_counts c.args.weights.now c.args.bidders c.args.counts.now =
    ap₂ (λ x y. x * y) c.orders_of.ensures c.powers.ensures.value ∙ orders-times_powers c.args.weights.now c.args.bidders _ c.args.counts.now c.requires.counts in
    omega (arith, value, weight_of_counts-le c.args.weights.now c.args.bidders c.args.counts.now c.requires.one_each, c.requires.power)

pub returns : goal.returns
returns c =
    ap₂ (λ x y. x * y) c.orders_of.ensures c.powers.ensures.value ∙ orders-times_powers c.args.weights.now c.args.bidders _ c.args.counts.now c.requires.counts
