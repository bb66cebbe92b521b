use Rattle.md_report.specs.Deficits.{IsLeastPaid}
use Rattle.md_report.proofs.least_paid.least_rank.Given as goal

abbrev pub invariant-loop-rank : goal.invariant-loop-rank
invariant-loop-rank l = IsLeastPaid l.setting l.mechanism l.rank l.least
