use Rattle.std.proofs.Common.{◌≡◌, drop}
use Rattle.toml.specs.View.{items_view}
use Rattle.md_setting.specs.Setting.{lists_of}
use Rattle.md_toml.specs.Values.{integer_in, list_in, each_item}
use Rattle.md_toml.proofs.Each.{after}
use Rattle.md_toml.proofs.values.each_row.Given as goal

abbrev pub invariant-loop-item : goal.invariant-loop-item
invariant-loop-item l =
    after (lists_of l.rows.items) (each_item (list_in integer_in l.key) (items_view (drop l.item-index l.items)))
    ≡ each_item (list_in integer_in l.key) (items_view l.items)
