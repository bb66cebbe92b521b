use Rattle.std.proofs.Common.{◌≡◌, [], ◌∷◌, ◌++◌, if◌then◌else◌}
use Rattle.md_math.specs.Lists.{up_to}
use Rattle.md_iron_values.specs.Cuts.{begins}
use Rattle.md_iron_pools.specs.Pooling.{pools_of}
use Rattle.md_cli_sell.specs.ThresholdTexts.{pool_row}
use Rattle.md_cli_sell.proofs.threshold_text.push_pools.Given as goal

abbrev pub invariant-loop-kind : goal.invariant-loop-kind
invariant-loop-kind l = l.rows.items ≡ l.fn.rows.items ++ up_to l.kind (λ v. if begins (pools_of l.pools) v then pool_row l.auction (pools_of l.pools) v ∷ [] else [])
