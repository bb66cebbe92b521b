use Rattle.md_list_find.specs.GroupSums.{AreListed}
use Rattle.md_list_find.proofs.find.all_pools.Given as goal

abbrev pub invariant-loop-group : goal.invariant-loop-group
invariant-loop-group l = AreListed l.auction l.group l.pools.items
