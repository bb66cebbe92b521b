use Rattle.std.proofs.Common.{◌≡◌, map, take}
use Rattle.md_list_find.specs.GroupSums.{ranked_of}
use Rattle.md_list_find.proofs.virtual_values.ranks.Given as goal

abbrev pub invariant-loop-pool : goal.invariant-loop-pool
invariant-loop-pool l = l.ranks.items ≡ map ranked_of (take l.pool-index l.pools)
