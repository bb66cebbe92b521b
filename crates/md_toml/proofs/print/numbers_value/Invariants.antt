use Rattle.std.proofs.Common.{◌≡◌, take}
use Rattle.toml.specs.Data.{integer}
use Rattle.toml.specs.View.{items_view}
use Rattle.md_toml.specs.Writing.{items_from}
use Rattle.md_toml.proofs.print.numbers_value.Given as goal

-- the items so far
abbrev pub invariant-loop-number : goal.invariant-loop-number
invariant-loop-number l = items_view l.items.items ≡ items_from integer (take l.number-index l.numbers)
