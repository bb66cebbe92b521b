use Rattle.std.proofs.Common.{◌≡◌}
use Rattle.std.specs.Prelude.{slice_index}
use Rattle.md_math.specs.Products.{product_to, factorial}
use Rattle.md_counts.proofs.weights.factorials.Given as goal

abbrev pub invariant-loop-count : goal.invariant-loop-count
invariant-loop-count l = l.product ≡ product_to l.count-index (λ v. factorial (slice_index l.counts v))
