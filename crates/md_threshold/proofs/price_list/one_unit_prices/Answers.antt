use Rattle.std.proofs.Common.{[], if◌then◌else◌, sym, subst}
use Rattle.md_math.proofs.Builders.{up_to-more}
use Rattle.md_iron_values.specs.Cuts.{begins}
use Rattle.md_iron_pools.specs.Pooling.{pools_of}
use Rattle.md_threshold.specs.PriceLists.{AddsPrices, pool_cases}
use Rattle.md_threshold.proofs.PriceListLaws.{adds-more}
use Rattle.md_threshold.proofs.price_list.one_unit_prices.Goals as goal

pub loop-pool-preserved : goal.loop-pool-preserved
loop-pool-preserved c =
    let a = c.args.auction.now in
    let pools = pools_of c.args.pools.now in
    subst (λ cases. AddsPrices a pools cases [] c.push_if_pool.new.rows.items) (sym (up_to-more c.loop-pool.pool (λ pool. if begins pools pool then pool_cases a pools pool else [])))
    (adds-more a pools _ _ _ _ _ c.loop-pool.invariant c.in_ok-push_if_pool.ensures)
