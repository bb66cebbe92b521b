use Rattle.std.proofs.Common.{◌≡◌, ◌++◌, map, take}
use Rattle.md_iron_pools.specs.Pooling.{pools_of}
use Rattle.md_cli_sell.specs.ThresholdTexts.{price_row}
use Rattle.md_cli_sell.proofs.threshold_text.push_prices.Given as goal

abbrev pub invariant-loop-price : goal.invariant-loop-price
invariant-loop-price l = l.rows.items ≡ l.fn.rows.items ++ map (price_row l.auction (pools_of l.pools)) (take l.price-index l.prices)
