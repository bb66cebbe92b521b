use Rattle.std.proofs.Common.{◌≤◌, ◌-◌, length}
use Rattle.md_setting.specs.Grouped.{group_at}
use Rattle.md_list_find.specs.GroupSums.{AreListedUpTo}
use Rattle.md_list_find.proofs.find.put_group.Given as goal

abbrev pub invariant-loop-first : goal.invariant-loop-first
invariant-loop-first l = record {
  listed : AreListedUpTo l.auction l.group l.first l.pools.items;
  inside : l.first ≤ length (group_at l.auction l.group).values;
}

abbrev pub decreases-loop-first : goal.decreases-loop-first
decreases-loop-first l = length (group_at l.auction l.group).values - l.first
