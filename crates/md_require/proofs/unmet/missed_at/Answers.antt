use Rattle.md_require.specs.Limits.{IsNarrowFor}
use Rattle.md_require.specs.Named.{named}
use Rattle.md_require.proofs.ConditionRows.{at-rank}
use Rattle.md_require.proofs.unmet.missed_at.Goals as goal

pub missed_by-requires-clause-narrow : goal.missed_by-requires-clause-narrow
missed_by-requires-clause-narrow c =
    let s = c.args.setting.now in
    let k = c.args.condition.now in
    at-rank s (IsNarrowFor s k) k.measured c.args.rank (named s c.in-Some.amount) c.requires.rank_in (rw c.in-Some.is at c.amount_at.ensures.amounts) c.requires.condition.narrow
