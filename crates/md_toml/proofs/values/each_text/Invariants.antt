use Rattle.std.proofs.Common.{◌≡◌, drop}
use Rattle.toml.specs.View.{items_view}
use Rattle.md_setting.specs.Setting.{names_of}
use Rattle.md_toml.specs.Values.{text_in, each_item}
use Rattle.md_toml.proofs.Each.{after}
use Rattle.md_toml.proofs.values.each_text.Given as goal

abbrev pub invariant-loop-item : goal.invariant-loop-item
invariant-loop-item l =
    after (names_of l.texts.items) (each_item (text_in l.key) (items_view (drop l.item-index l.items)))
    ≡ each_item (text_in l.key) (items_view l.items)
