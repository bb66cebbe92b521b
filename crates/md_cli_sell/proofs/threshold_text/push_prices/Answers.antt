use Rattle.std.proofs.Common.{[], ◌∷◌, ◌++◌, ◌∙◌, ap, pos, None}
use Rattle.md_parts.proofs.MadeRows.{mapped-more}
use Rattle.md_iron_pools.specs.Pooling.{pools_of}
use Rattle.md_threshold.specs.declared.price.Price.{Price}
use Rattle.md_cli_sell.specs.ThresholdTexts.{price_row}
use Rattle.md_cli_sell.proofs.threshold_text.push_prices.Goals as goal

pub loop-price-preserved : goal.loop-price-preserved
loop-price-preserved c =
    let d : Price = record { pool = 0; other = None; count = 0; price = record { num = pos 0; den = pos 0 } } in
    mapped-more (price_row c.args.auction.now (pools_of c.args.pools.now)) c.args.rows.now.items c.loop-price.rows.items c.push.new.self.items c.args.prices.now c.loop-price.price-index d c.loop-price-test.true c.loop-price.invariant
    (c.in_ok-push.ensures.items ∙ ap (λ row. c.loop-price.rows.items ++ row ∷ []) c.in_ok-price_record.ensures)
