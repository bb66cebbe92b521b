use Rattle.std.proofs.Common.{◌≡◌, take, map}
use Rattle.toml.specs.Data.{table}
use Rattle.toml.specs.View.{items_view}
use Rattle.md_setting.specs.Grouped.{written_group}
use Rattle.md_toml.specs.Writing.{items_from, group_table}
use Rattle.md_toml.proofs.write.groups_value.Given as goal

-- the items so far
abbrev pub invariant-loop-group : goal.invariant-loop-group
invariant-loop-group l = items_view l.tables.items ≡ items_from (λ group. table (group_table group)) (map written_group (take l.group-index l.groups))
