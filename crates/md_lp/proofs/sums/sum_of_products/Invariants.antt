use Rattle.std.proofs.Common.{◌≡◌}
use Rattle.md_math.specs.Lists.{number_at}
use Rattle.md_math.specs.Sums.{dot}
use Rattle.md_lp.proofs.sums.sum_of_products.Given as goal

abbrev pub invariant-loop-place : goal.invariant-loop-place
invariant-loop-place l = l.sum ≡ dot l.place (number_at l.left) (number_at l.right)
