use Rattle.md_cli_sell.proofs.threshold_text.threshold_text.Goals as goal

pub returns : goal.returns
returns c =
    rw (c.deref.ensures.value, c.in_ok-push_end.ensures.rows, c.in_ok-push_prices.ensures, c.in_ok-push_pools.ensures, c.in_ok-push_head.ensures, c.new-rows.ensures.items)
    at c.write_records.ensures.text
