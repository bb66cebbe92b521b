use Rattle.std.proofs.Common.{[], if◌then◌else◌}
use Rattle.md_math.specs.Lists.{up_to}
use Rattle.md_iron_values.specs.Cuts.{begins}
use Rattle.md_iron_pools.specs.Pooling.{pools_of}
use Rattle.md_threshold.specs.PriceLists.{AddsPrices, pool_cases}
use Rattle.md_threshold.proofs.price_list.one_unit_prices.Given as goal

abbrev pub invariant-loop-pool : goal.invariant-loop-pool
invariant-loop-pool l = AddsPrices l.auction (pools_of l.pools) (up_to l.pool (λ pool. if begins (pools_of l.pools) pool then pool_cases l.auction (pools_of l.pools) pool else [])) [] l.rows.items
