use Rattle.std.proofs.Common.{◌≡◌, drop}
use Rattle.toml.specs.View.{items_view}
use Rattle.md_toml.specs.Values.{integer_in, each_item}
use Rattle.md_toml.proofs.Each.{after}
use Rattle.md_toml.proofs.values.each_integer.Given as goal

abbrev pub invariant-loop-item : goal.invariant-loop-item
invariant-loop-item l =
    after l.numbers.items (each_item (integer_in l.key) (items_view (drop l.item-index l.items)))
    ≡ each_item (integer_in l.key) (items_view l.items)
