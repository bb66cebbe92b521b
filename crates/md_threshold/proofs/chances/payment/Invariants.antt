use Rattle.std.proofs.Common.{◌≡◌, pos, ◌*ℤ◌}
use Rattle.md_math.specs.Lists.{number_at}
use Rattle.md_math.specs.Sums.{sum_to}
use Rattle.md_iron_values.specs.Odds.{step_of}
use Rattle.md_iron_pools.specs.Pooling.{pools_of}
use Rattle.md_threshold_laws.specs.Rule.{chance_with}
use Rattle.md_threshold.proofs.chances.payment.Given as goal

abbrev pub invariant-loop-kind : goal.invariant-loop-kind
invariant-loop-kind l = l.sum ≡ sum_to l.kind (λ i. number_at l.auction.values i *ℤ step_of (λ v. pos (chance_with l.units (pools_of l.pools) l.profile l.bidder v)) i)
