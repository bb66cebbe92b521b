use Rattle.std.proofs.Common.{◌≡◌, ◌++◌, map, take}
use Rattle.md_tree.specs.Rows.{fixed_row}
use Rattle.md_tree.proofs.fixed_pairs.push_fixed.Given as goal

abbrev pub invariant-loop-pair : goal.invariant-loop-pair
invariant-loop-pair l = l.to.items ≡ l.fn.to.items ++ map fixed_row (take l.pair-index l.pair-items)
