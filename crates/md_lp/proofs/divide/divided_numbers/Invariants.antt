use Rattle.std.proofs.Common.{take}
use Rattle.md_lp.specs.Divided.{IsDividedList}
use Rattle.md_lp.proofs.divide.divided_numbers.Given as goal

abbrev pub invariant-loop-number : goal.invariant-loop-number
invariant-loop-number l = IsDividedList l.by (take l.number-index l.cost) l.divided
