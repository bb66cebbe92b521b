use Rattle.std.proofs.Common.{◌≡◌, take}
use Rattle.toml.specs.Data.{string}
use Rattle.toml.specs.View.{items_view}
use Rattle.md_setting.specs.Setting.{names_of}
use Rattle.md_toml.specs.Writing.{items_from}
use Rattle.md_toml.proofs.print.texts_value.Given as goal

-- the items so far
abbrev pub invariant-loop-text : goal.invariant-loop-text
invariant-loop-text l = items_view l.items.items ≡ items_from string (names_of (take l.text-index l.texts))
