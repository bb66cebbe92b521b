use Rattle.std.proofs.Common.{subst}
use Rattle.md_iron_pools.specs.Pooling.{pools_of}
use Rattle.md_threshold.specs.Prices.{IsPriceAgainst}
use Rattle.md_threshold.proofs.PriceListLaws.{adds-one}
use Rattle.md_threshold.proofs.price_list.push_case.Goals as goal

pub returns : goal.returns
returns c =
    let pools = pools_of c.args.pools.now in
    adds-one c.args.auction.now pools _ _ _ c.in_ok-push_row.ensures
    (subst (λ b. IsPriceAgainst c.args.auction.now pools c.args.pool b c.args.count c.one_unit_price.result) c.best_of-best.ensures c.one_unit_price.ensures)
