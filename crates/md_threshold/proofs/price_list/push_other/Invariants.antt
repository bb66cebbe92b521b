use Rattle.std.proofs.Common.{◌+◌, Some}
use Rattle.md_math.specs.Lists.{list_to}
use Rattle.md_iron_pools.specs.Pooling.{pools_of}
use Rattle.md_threshold.specs.PriceLists.{AddsPrices, case_for}
use Rattle.md_threshold.proofs.price_list.push_other.Given as goal

abbrev pub invariant-loop-count : goal.invariant-loop-count
invariant-loop-count l = AddsPrices l.auction (pools_of l.pools) (list_to l.count (λ count. case_for l.pool (Some l.other) (count + 1))) l.fn.rows.items l.rows.items
