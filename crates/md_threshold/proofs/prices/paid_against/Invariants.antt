use Rattle.std.proofs.Common.{◌≡◌, pos, ◌*ℤ◌}
use Rattle.md_math.specs.Lists.{number_at}
use Rattle.md_math.specs.Sums.{sum_to}
use Rattle.md_iron_values.specs.Odds.{step_of}
use Rattle.md_iron_pools.specs.Pooling.{pools_of}
use Rattle.md_threshold.specs.Prices.{chance_against}
use Rattle.md_threshold.proofs.prices.paid_against.Given as goal

abbrev pub invariant-loop-place : goal.invariant-loop-place
invariant-loop-place l = l.sum ≡ sum_to l.place (λ i. number_at l.auction.values i *ℤ step_of (λ v. pos (chance_against (pools_of l.pools) l.other l.count v)) i)
