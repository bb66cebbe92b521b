use Rattle.std.proofs.Common.{◌<◌}
use Rattle.std.specs.Prelude.{slice_index}
use Rattle.md_math.specs.FirstFailure.{HoldsBelow}
use Rattle.md_setting.specs.Auction.{value_count}
use Rattle.md_run.proofs.reports.are_reports.Given as goal

abbrev pub invariant-loop-report : goal.invariant-loop-report
invariant-loop-report l = HoldsBelow l.report-index (λ i. slice_index l.reports i < value_count l.auction)
