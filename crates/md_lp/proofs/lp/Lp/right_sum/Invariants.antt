use Rattle.std.proofs.Common.{◌≡◌}
use Rattle.md_math.specs.Lists.{number_at}
use Rattle.md_math.specs.Sums.{dot}
use Rattle.md_lp.specs.Program.{right_at}
use Rattle.md_lp.proofs.lp.Lp.right_sum.Given as goal

abbrev pub invariant-loop-row : goal.invariant-loop-row
invariant-loop-row l = l.sum ≡ dot l.row (right_at l.self) (number_at l.numbers)
