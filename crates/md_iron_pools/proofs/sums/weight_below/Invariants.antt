use Rattle.std.proofs.Common.{◌≡◌}
use Rattle.std.specs.Prelude.{slice_index}
use Rattle.md_iron_values.specs.Weights.{weight_before}
use Rattle.md_iron_pools.proofs.sums.weight_below.Given as goal

abbrev pub invariant-loop-kind : goal.invariant-loop-kind
invariant-loop-kind l = l.sum ≡ weight_before (slice_index l.auction.weights) l.kind
