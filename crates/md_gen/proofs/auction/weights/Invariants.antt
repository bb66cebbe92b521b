use Rattle.std.proofs.Common.{◌≡◌, pos}
use Rattle.md_math.specs.Lists.{list_to}
use Rattle.md_gen.specs.GeneratedAuction.{weight_at}
use Rattle.md_gen.proofs.auction.weights.Given as goal

abbrev pub invariant-loop-kind : goal.invariant-loop-kind
invariant-loop-kind l = l.weights.items ≡ list_to l.kind (λ k. pos (weight_at l.number k))
