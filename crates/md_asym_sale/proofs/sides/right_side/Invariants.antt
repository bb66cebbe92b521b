use Rattle.std.proofs.Common.{◌≡◌}
use Rattle.md_math.specs.Sums.{sum_to}
use Rattle.md_asym_sale.proofs.SideLaws.{weight_where}
use Rattle.md_asym_sale.proofs.sides.right_side.Given as goal

abbrev pub invariant-loop-rank : goal.invariant-loop-rank
invariant-loop-rank l = l.sum ≡ sum_to l.rank (weight_where l.setting l.set)
