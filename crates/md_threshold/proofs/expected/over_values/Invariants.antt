use Rattle.std.proofs.Common.{◌≡◌, pos, ◌*ℤ◌}
use Rattle.std.specs.Prelude.{slice_index}
use Rattle.md_math.specs.Sums.{sum_to}
use Rattle.md_threshold.specs.Interims.{amount_of}
use Rattle.md_threshold.proofs.expected.over_values.Given as goal

abbrev pub invariant-loop-kind : goal.invariant-loop-kind
invariant-loop-kind l = l.sum ≡ sum_to l.kind (λ v. pos (slice_index l.auction.weights v) *ℤ amount_of l.auction l.interim l.measure v)
