use Rattle.std.proofs.Common.{◌≡◌, map, take}
use Rattle.md_setting.specs.Setting.{lists_of}
use Rattle.md_samples.proofs.lists.rows.Given as goal

abbrev pub invariant-loop-list : goal.invariant-loop-list
invariant-loop-list l = lists_of l.rows.items ≡ map (λ list. list.now) (take l.list-index l.lists)
