use Rattle.std.proofs.Common.{◌≡◌, ◌-ℤ◌}
use Rattle.md_setting.specs.Grouped.{group_at}
use Rattle.md_list.specs.Gains.{weight_in}
use Rattle.md_list.specs.ByRule.{sums_of}
use Rattle.md_list_gains.proofs.gains.weight_from.Given as goal

abbrev pub invariant-loop-place : goal.invariant-loop-place
invariant-loop-place l = l.sum ≡ sums_of (weight_in (group_at l.auction l.group)) l.place -ℤ sums_of (weight_in (group_at l.auction l.group)) l.value
