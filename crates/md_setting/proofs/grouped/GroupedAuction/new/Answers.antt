use Rattle.md_setting.proofs.GroupedLaws.{kept}
use Rattle.md_setting.proofs.grouped.GroupedAuction.new.Goals as goal

pub invariant_of-result : goal.invariant_of-result
invariant_of-result c = kept c.args.raw c.in_ok-check_grouped_orders.ensures.ok
