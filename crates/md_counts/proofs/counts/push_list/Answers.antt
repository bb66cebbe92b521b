use Rattle.std.proofs.Common.{◌-◌}
use Rattle.md_counts.specs.Counts.{counts_at}
use Rattle.md_counts.proofs.Walks.{IsFirst, IsWalk-more}
use Rattle.md_counts.proofs.counts.push_list.Goals as goal

pub loop-kind-preserved : goal.loop-kind-preserved
loop-kind-preserved c =
    let first : IsFirst c.loop-kind.left (c.args.kinds - c.loop-kind.kind - 1) c.loop-kind.place c.first_at-count.result =
    record { few = c.first_at-count.ensures.few; from = c.first_at-count.ensures.from; below = c.first_at-count.ensures.below } in
    rw c.before-place.ensures
    (IsWalk-more c.args.table.now.items c.loop-kind.table.items c.push.new.self.items (counts_at c.args.bidders c.args.kinds c.args.rank) c.loop-kind.left c.args.kinds c.loop-kind.place c.loop-kind.kind c.first_at-count.result
    c.loop-kind-test.true c.loop-kind.invariant first c.in_ok-push.ensures.items)
