use Rattle.std.proofs.Common.{refl}
use Rattle.md_iron_pools.specs.Pooling.{pools_of}
use Rattle.md_cli_sell.proofs.WinnersPay.{rule-of-pools, winners-pay}
use Rattle.md_cli_sell.proofs.threshold.sold.Goals as goal

pub threshold_units-requires : goal.threshold_units-requires
threshold_units-requires c = (c.requires.some, c.requires.few)

pub prices_of-requires : goal.prices_of-requires
prices_of-requires c = c.in_ok-threshold.ensures.pooling

pub threshold_text-requires : goal.threshold_text-requires
threshold_text-requires c = c.in_ok-threshold.ensures.pooling

pub returns-clause-selling : goal.returns-clause-selling
returns-clause-selling c =
    record {
      threshold = c.in_ok-threshold.threshold;
      is_threshold = c.in_ok-threshold.ensures;
      winners_pay = winners-pay c.args.auction.now c.args.units (pools_of c.in_ok-threshold.threshold.pools) c.kinds-shaped.ensures.shaped c.in_ok-threshold.ensures.pooling.pooled;
      rule_of_pools = rule-of-pools c.args.auction.now (pools_of c.in_ok-threshold.threshold.pools) c.kinds-shaped.ensures.shaped c.in_ok-threshold.ensures.pooling.pooled;
      prices = c.in_ok-prices.prices.items;
      are_prices = record { cases = c.in_ok-prices.ensures.cases; right = c.in_ok-prices.ensures.right };
      status = refl;
      text = rw c.deref.ensures.value at c.in_ok-threshold_text.ensures;
    }
