use Rattle.std.proofs.Common.{◌≡◌}
use Rattle.md_iron_values.specs.VirtualValues.{virtual_to}
use Rattle.md_iron_pools.proofs.sums.virtual_below.Given as goal

abbrev pub invariant-loop-kind : goal.invariant-loop-kind
invariant-loop-kind l = l.sum ≡ virtual_to l.auction l.kind
