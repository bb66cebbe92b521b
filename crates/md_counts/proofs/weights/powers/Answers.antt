use Rattle.std.proofs.Common.{ℕ, ◌+◌, ◌≤◌, ◌^◌, ap, ◌∙◌, arith, get_or}
use Rattle.std.specs.Prelude.{slice_index}
use Rattle.std.proofs.lemmas.List.Sums.{get_or-le-sum_by}
use Rattle.md_math.proofs.ProductLaws.{product_to-step}
use Rattle.md_counts.proofs.WeightLaws.{roof_of, power-small, powers-small}
use Rattle.md_counts.proofs.weights.powers.Goals as goal

pub pow-product-requires : goal.pow-product-requires
pow-product-requires c =
    let count : get_or c.args.counts.now c.loop-kind.kind 0 ≤ c.args.bidders = omega (arith, get_or-le-sum_by (λ (x : ℕ). x) c.args.counts.now c.loop-kind.kind 0 c.loop-kind-test.true, c.requires.counts.add) in
    rw c.from.ensures
    (omega (arith, power-small c.args.weights.now c.args.bidders (get_or c.args.counts.now c.loop-kind.kind 0) c.loop-kind.kind (roof_of c.args.weights.now c.args.bidders c.requires.power) count))

pub overflow_mul-product : goal.overflow_mul-product
overflow_mul-product c =
    omega (
      arith,
      product_to-step c.loop-kind.kind c.loop-kind.product c.pow-product.result (λ v. slice_index c.args.weights.now v ^ slice_index c.args.counts.now v) c.loop-kind.invariant (c.pow-product.ensures ∙ ap (λ n. get_or c.args.weights.now c.loop-kind.kind 0 ^ n) c.from.ensures),
      powers-small c.args.weights.now c.args.bidders _ (c.loop-kind.kind + 1) c.args.counts.now (roof_of c.args.weights.now c.args.bidders c.requires.power) c.requires.counts (omega arith),
    )
