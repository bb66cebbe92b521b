use Rattle.std.proofs.Common.{◌≡◌}
use Rattle.md_math.specs.Sums.{sum_to}
use Rattle.md_fair.proofs.Sizes.{mean_term}
use Rattle.md_fair.proofs.means.mean.Given as goal

abbrev pub invariant-loop-rank : goal.invariant-loop-rank
invariant-loop-rank l = l.sum ≡ sum_to l.rank (mean_term l.setting l.mechanism l.agent)
