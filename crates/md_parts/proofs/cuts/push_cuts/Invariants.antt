use Rattle.std.proofs.Common.{◌≡◌, ◌++◌, map, take}
use Rattle.md_parts.specs.Rows.{cut_row}
use Rattle.md_parts.proofs.cuts.push_cuts.Given as goal

abbrev pub invariant-loop-set : goal.invariant-loop-set
invariant-loop-set l = l.to.items ≡ l.fn.to.items ++ map cut_row (take l.set-index l.set-items)
