use Rattle.std.proofs.Common.{◌≡◌, ◌++◌, map, take}
use Rattle.md_num.specs.WholeText.{text_of}
use Rattle.md_parts.proofs.numbers.with_numbers.Given as goal

abbrev pub invariant-loop-number : goal.invariant-loop-number
invariant-loop-number l = l.filled ≡ l.fn.row ++ map text_of (take l.number-index l.numbers)
