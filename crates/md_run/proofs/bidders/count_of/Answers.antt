use Rattle.std.proofs.Common.{arith}
use Rattle.md_run.proofs.ReportLaws.{count_in-more}
use Rattle.md_run.proofs.bidders.count_of.Goals as goal

pub loop-report-preserved : goal.loop-report-preserved
loop-report-preserved c =
    let more = count_in-more c.args.kind c.args.reports.now c.loop-report.report-index c.loop-report-test.true in (
      omega (arith, more, c.loop-report.invariant.0, c.one_for-count.ensures.value),
      omega (arith, c.loop-report.invariant.1, c.one_for-count.ensures.small),
    )
