use Rattle.std.proofs.Common.{◌≡◌, ◌^◌}
use Rattle.std.specs.Prelude.{slice_index}
use Rattle.md_math.specs.Products.{product_to}
use Rattle.md_counts.proofs.weights.powers.Given as goal

abbrev pub invariant-loop-kind : goal.invariant-loop-kind
invariant-loop-kind l = l.product ≡ product_to l.kind (λ v. slice_index l.weights v ^ slice_index l.counts v)
