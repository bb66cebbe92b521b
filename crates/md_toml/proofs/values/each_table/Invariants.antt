use Rattle.std.proofs.Common.{◌≡◌, drop}
use Rattle.toml.specs.View.{items_view}
use Rattle.md_toml.specs.Values.{members_of_all}
use Rattle.md_toml.specs.Values.{table_in, each_item}
use Rattle.md_toml.proofs.Each.{after}
use Rattle.md_toml.proofs.values.each_table.Given as goal

abbrev pub invariant-loop-item : goal.invariant-loop-item
invariant-loop-item l =
    after (members_of_all l.tables.items) (each_item (table_in l.key) (items_view (drop l.item-index l.items)))
    ≡ each_item (table_in l.key) (items_view l.items)
