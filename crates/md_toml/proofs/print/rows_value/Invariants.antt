use Rattle.std.proofs.Common.{◌≡◌, take}
use Rattle.toml.specs.View.{items_view}
use Rattle.md_setting.specs.Setting.{lists_of}
use Rattle.md_toml.specs.Writing.{items_from, numbers_data}
use Rattle.md_toml.proofs.print.rows_value.Given as goal

-- the items so far
abbrev pub invariant-loop-row : goal.invariant-loop-row
invariant-loop-row l = items_view l.items.items ≡ items_from numbers_data (lists_of (take l.row-index l.rows))
