use Rattle.std.proofs.Common.{◌≡◌, take, length}
use Rattle.md_setting.specs.Grouped.{group_at}
use Rattle.md_list.specs.Lists.{ranks_of}
use Rattle.md_list.specs.Valid.{left_behind}
use Rattle.md_list_check.proofs.ranks.unlisted.Given as goal

abbrev pub invariant-loop-place : goal.invariant-loop-place
invariant-loop-place l = l.left ≡ left_behind (λ k. length (group_at l.auction k).values) (take l.place (ranks_of l.ranks)) l.group
