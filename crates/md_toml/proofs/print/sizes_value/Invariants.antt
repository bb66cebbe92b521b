use Rattle.std.proofs.Common.{◌≡◌, take, map, pos}
use Rattle.toml.specs.Data.{integer}
use Rattle.toml.specs.View.{items_view}
use Rattle.md_toml.specs.Writing.{items_from}
use Rattle.md_toml.proofs.print.sizes_value.Given as goal

-- the items so far
abbrev pub invariant-loop-size : goal.invariant-loop-size
invariant-loop-size l = items_view l.items.items ≡ items_from integer (map pos (take l.size-index l.sizes))
