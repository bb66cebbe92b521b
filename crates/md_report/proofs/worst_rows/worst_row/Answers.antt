use Rattle.md_report.proofs.WorstLaws.{worst-first, worst-more}
use Rattle.md_report.proofs.worst_rows.worst_row.Goals as goal

pub loop-row-init : goal.loop-row-init
loop-row-init c = worst-first c.args.setting.now c.args.mechanism.now c.args.start c.missed_at-worst.result c.missed_at-worst.ensures

pub loop-row-preserved : goal.loop-row-preserved
loop-row-preserved c =
    worst-more c.args.setting.now c.args.mechanism.now c.args.start c.loop-row.row c.loop-row.worst c.missed_at.result c.worse-worst.result c.loop-row.invariant c.missed_at.ensures c.worse-worst.ensures
