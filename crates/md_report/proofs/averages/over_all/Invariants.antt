use Rattle.std.proofs.Common.{◌≡◌}
use Rattle.md_math.specs.Sums.{sum_to}
use Rattle.md_report.proofs.ExpectedLaws.{sum_term}
use Rattle.md_report.proofs.averages.over_all.Given as goal

abbrev pub invariant-loop-rank : goal.invariant-loop-rank
invariant-loop-rank l = l.total ≡ sum_to l.rank (sum_term l.setting l.mechanism l.measure)
