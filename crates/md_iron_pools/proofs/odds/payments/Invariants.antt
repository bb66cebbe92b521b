use Rattle.std.proofs.Common.{◌≡◌, ◌*ℤ◌}
use Rattle.md_math.specs.Lists.{number_at, list_to}
use Rattle.md_math.specs.Sums.{sum_to}
use Rattle.md_iron_values.specs.Odds.{pay_by, step_of}
use Rattle.md_iron_pools.proofs.odds.payments.Given as goal

abbrev pub invariant-loop-kind : goal.invariant-loop-kind
invariant-loop-kind l =
    (l.pays ≡ list_to l.kind (pay_by (number_at l.auction.values) (number_at l.odds)))
    × (l.paid ≡ sum_to l.kind (λ i. number_at l.auction.values i *ℤ step_of (number_at l.odds) i))
