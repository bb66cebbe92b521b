use Rattle.std.proofs.Common.{◌≡◌}
use Rattle.std.specs.Prelude.{◌&&◌, nat_lt}
use Rattle.md_iron_values.specs.Cuts.{begins}
use Rattle.md_iron_pools.specs.Pooling.{pools_of}
use Rattle.md_threshold_laws.specs.Rule.{count_to}
use Rattle.md_cli_sell.proofs.threshold_text.pool_number.Given as goal

abbrev pub invariant-loop-kind : goal.invariant-loop-kind
invariant-loop-kind l = l.number ≡ count_to l.kind (λ v. nat_lt v l.first && begins (pools_of l.pools) v)
