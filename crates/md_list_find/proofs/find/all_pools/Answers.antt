use Rattle.md_list_find.proofs.Found.{listed-none}
use Rattle.md_list_find.proofs.find.all_pools.Goals as goal

pub loop-group-init : goal.loop-group-init
loop-group-init c = listed-none c.args.auction.now c.new-pools.result.items c.new-pools.ensures.items
