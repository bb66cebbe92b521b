use Rattle.std.proofs.Common.{◌≡◌, ◌+◌, ◌*◌, ◌≤◌, pos}
use Rattle.md_math.specs.Lists.{list_to}
use Rattle.md_gen.specs.GeneratedAuction.{value_at}
use Rattle.md_gen.proofs.auction.values.Given as goal

abbrev pub invariant-loop-kind : goal.invariant-loop-kind
invariant-loop-kind l = (l.value ≡ value_at l.number l.kind) × (l.value ≤ 5 * l.kind + 5) × (l.values.items ≡ list_to (l.kind + 1) (λ k. pos (value_at l.number k)))
