use Rattle.std.proofs.Common.{◌≡◌}
use Rattle.md_math.specs.Products.{factorial}
use Rattle.md_counts.proofs.weights.factorial.Given as goal

abbrev pub invariant-loop-factor : goal.invariant-loop-factor
invariant-loop-factor l = l.product ≡ factorial l.factor
