use Rattle.std.proofs.Common.{◌+◌, Some, sym, subst}
use Rattle.md_math.proofs.Builders.{list_to-more}
use Rattle.md_iron_pools.specs.Pooling.{pools_of}
use Rattle.md_threshold.specs.PriceLists.{AddsPrices, case_for}
use Rattle.md_threshold.proofs.PriceListLaws.{adds-more}
use Rattle.md_threshold.proofs.price_list.push_other.Goals as goal

pub loop-count-preserved : goal.loop-count-preserved
loop-count-preserved c =
    subst (λ cases. AddsPrices c.args.auction.now (pools_of c.args.pools.now) cases c.args.rows.now.items c.push_case.new.rows.items) (sym (list_to-more c.loop-count.count (λ count. case_for c.args.pool (Some c.args.other) (count + 1))))
    (adds-more c.args.auction.now (pools_of c.args.pools.now) _ _ _ _ _ c.loop-count.invariant c.in_ok-push_case.ensures)
