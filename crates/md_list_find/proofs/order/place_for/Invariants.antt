use Rattle.std.proofs.Common.{ℕ, ◌<◌}
use Rattle.md_math.specs.LexOrder.{IsPairNonNegative}
use Rattle.md_list_gains.specs.Places.{more_gain_by, more_benefit_by}
use Rattle.md_list_find.specs.Places.{pool_at}
use Rattle.md_list_find.proofs.order.place_for.Given as goal

abbrev pub invariant-loop-place : goal.invariant-loop-place
invariant-loop-place l = (p : ℕ) → p < l.place → IsPairNonNegative (more_gain_by (pool_at l.pools p).sums l.sums) (more_benefit_by (pool_at l.pools p).sums l.sums)
