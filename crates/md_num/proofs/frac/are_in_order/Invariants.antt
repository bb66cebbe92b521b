use Rattle.std.proofs.Common.{◌+◌}
use Rattle.md_num.proofs.Comparison.{AreOrderedAs}
use Rattle.md_num.proofs.frac.are_in_order.Given as goal

abbrev pub invariant-loop-a : goal.invariant-loop-a
invariant-loop-a l = AreOrderedAs l.fn.num l.fn.den l.fn.other_num l.fn.other_den l.a l.b l.c l.d

abbrev pub decreases-loop-a : goal.decreases-loop-a
decreases-loop-a l = l.b + l.d
