use Rattle.std.proofs.Common.{◌≡◌}
use Rattle.std.specs.Prelude.{slice_index}
use Rattle.md_iron_pools.specs.Pooling.{pools_of}
use Rattle.md_threshold_laws.specs.Rule.{count_to, is_split}
use Rattle.md_threshold.proofs.draws.draws_at.Given as goal

abbrev pub invariant-loop-place : goal.invariant-loop-place
invariant-loop-place l = l.count ≡ count_to l.place (λ i. is_split l.units (pools_of l.pools) l.profile (slice_index l.profile i))
