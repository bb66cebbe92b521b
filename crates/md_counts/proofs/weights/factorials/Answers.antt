use Rattle.std.proofs.Common.{◌+◌, ap, ◌∙◌, arith}
use Rattle.std.specs.Prelude.{slice_index}
use Rattle.md_math.specs.Products.{factorial}
use Rattle.md_math.proofs.ProductLaws.{product_to-positive, factorial-positive}
use Rattle.md_math.proofs.ProductLaws.{product_to-step}
use Rattle.md_counts.proofs.WeightLaws.{factorials-small}
use Rattle.md_counts.proofs.weights.factorials.Goals as goal

pub overflow_mul-product : goal.overflow_mul-product
overflow_mul-product c =
    omega (
      arith,
      product_to-step c.loop-count.count-index c.loop-count.product c.factorial-product.result (λ v. factorial (slice_index c.args.counts.now v)) c.loop-count.invariant (c.factorial-product.ensures ∙ ap factorial c.from.ensures),
      factorials-small c.args.bidders _ (c.loop-count.count-index + 1) c.args.counts.now c.requires.bidders c.requires.counts (omega arith),
    )

pub returns-clause-some : goal.returns-clause-some
returns-clause-some c =
    rw c.loop-count.invariant (product_to-positive c.loop-count.count-index (λ v. factorial (slice_index c.args.counts.now v)) (λ v b. factorial-positive (slice_index c.args.counts.now v)))
