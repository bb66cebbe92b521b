use Rattle.std.proofs.Common.{◌≡◌}
use Rattle.std.specs.Prelude.{slice_index}
use Rattle.md_space.specs.Profiles.{replaced}
use Rattle.md_iron_pools.specs.Pooling.{pools_of}
use Rattle.md_threshold_laws.specs.Rule.{count_to, is_beside}
use Rattle.md_threshold.proofs.counts.beside_with.Given as goal

abbrev pub invariant-loop-place : goal.invariant-loop-place
invariant-loop-place l = l.count ≡ count_to l.place (λ i. is_beside (pools_of l.pools) l.kind (slice_index (replaced l.profile l.bidder l.kind) i))
