use Rattle.std.proofs.Common.{◌≡◌, ◌-◌, ◌+◌, ◌<◌, ◌≤◌, ap, subst, arith, length, get_or}
use Rattle.md_setting.specs.CountLists.{count_lists}
use Rattle.md_counts.specs.Ranks.{lists_before}
use Rattle.md_counts.proofs.Walks.{rank-below, rank-end}
use Rattle.md_counts.proofs.counts.Counts.rank.Goals as goal

pub overflow_add-rank : goal.overflow_add-rank
overflow_add-rank c =
    let v = c.args.self.now in
    let counts = c.args.counts.now in
    let kinds : c.self.inside.kinds ≡ v.kinds = ap (λ w. w.kinds) c.self.view_is in
    let few = subst (λ w. length (count_lists w.bidders w.kinds) ≤ 20000) c.self.view_is c.self.invariant.few.few_lists in
    let small : c.loop-kind.rank + lists_before c.loop-kind.left (c.self.inside.kinds - c.loop-kind.kind - 1) (get_or counts c.loop-kind.kind 0) < 20000 =
    rank-below v.bidders v.kinds counts c.loop-kind.kind c.loop-kind.left c.loop-kind.rank (c.self.inside.kinds - c.loop-kind.kind - 1) 20000
    c.loop-kind-test.true (omega (arith, kinds)) (record { one_each = c.requires.one_each; add = c.requires.add }) few c.loop-kind.invariant in
    omega (arith, small, c.before-rank.ensures)

pub returns-clause-below : goal.returns-clause-below
returns-clause-below c =
    (rank-end c.args.self.now.bidders c.args.self.now.kinds c.args.counts.now c.loop-kind.kind c.loop-kind.left c.loop-kind.rank
    c.loop-kind-test.false (record { one_each = c.requires.one_each; add = c.requires.add }) c.loop-kind.invariant).0

pub returns-clause-value : goal.returns-clause-value
returns-clause-value c =
    (rank-end c.args.self.now.bidders c.args.self.now.kinds c.args.counts.now c.loop-kind.kind c.loop-kind.left c.loop-kind.rank
    c.loop-kind-test.false (record { one_each = c.requires.one_each; add = c.requires.add }) c.loop-kind.invariant).1
