use Rattle.std.proofs.Common.{[], ◌∷◌, ◌++◌, None, if◌then◌else◌}
use Rattle.md_math.specs.Lists.{up_to}
use Rattle.md_iron_values.specs.Cuts.{begins}
use Rattle.md_iron_pools.specs.Pooling.{pools_of}
use Rattle.md_threshold.specs.PriceLists.{AddsPrices, case_for, other_cases}
use Rattle.md_threshold.proofs.price_list.push_pool.Given as goal

abbrev pub invariant-loop-other : goal.invariant-loop-other
invariant-loop-other l = AddsPrices l.auction (pools_of l.pools) ((case_for l.pool None 0 ∷ []) ++ up_to l.other (λ other. if begins (pools_of l.pools) other then other_cases l.auction l.pool other else [])) l.fn.rows.items l.rows.items
