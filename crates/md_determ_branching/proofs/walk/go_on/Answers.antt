use Rattle.std.proofs.Common.{◌-◌, ◌<◌, length, arith, ◌∙◌, length-set}
use Rattle.std.proofs.lemmas.List.{get_or_read}
use Rattle.md_determ_branching.proofs.Trails.{IsTop-trail, IsTrail-next, behind-next, behind-freed, opens-deep}
use Rattle.md_determ_branching.proofs.walk.go_on.Goals as goal

pub next_outcome-next-requires : goal.next_outcome-next-requires
next_outcome-next-requires c =
    let inside : c.loop-left.left - 1 < length c.args.path.now.items = omega (arith, c.loop-left.invariant.room, c.requires.room) in
    let rank = get_or_read c.args.path.now.items (c.loop-left.left - 1) c.index-rank.result.now inside c.index-rank.ensures 0 in
    (IsTop-trail c.args.outcomes c.loop-left.fixed c.args.path.now.items c.loop-left.left c.index-rank.result.now c.loop-left-test.true rank c.loop-left.invariant.trail).branched

pub returns-then-next-outcomes-clause-trail : goal.returns-then-next-outcomes-clause-trail
returns-then-next-outcomes-clause-trail c =
    let inside : c.loop-left.left - 1 < length c.args.path.now.items = omega (arith, c.loop-left.invariant.room, c.requires.room) in
    let rank = get_or_read c.args.path.now.items (c.loop-left.left - 1) c.index-rank.result.now inside c.index-rank.ensures 0 in
    rw c.fix.ensures
    (IsTrail-next c.args.outcomes c.loop-left.fixed c.args.path.now.items c.loop-left.left c.index-rank.result.now c.next_outcome-next.result c.loop-left-test.true rank c.loop-left.invariant.trail c.if-next-outcomes.true)

pub returns-then-next-outcomes-clause-opens : goal.returns-then-next-outcomes-clause-opens
returns-then-next-outcomes-clause-opens c =
    let inside : c.loop-left.left - 1 < length c.args.path.now.items = omega (arith, c.loop-left.invariant.room, c.requires.room) in
    let rank = get_or_read c.args.path.now.items (c.loop-left.left - 1) c.index-rank.result.now inside c.index-rank.ensures 0 in
    opens-deep c.args.outcomes c.fix.new.self c.args.path.now.items c.loop-left.left c.loop-left-test.true
    ∙ rw c.fix.ensures
    (behind-next c.args.outcomes c.loop-left.fixed c.args.path.now.items c.loop-left.left c.index-rank.result.now c.next_outcome-next.result c.loop-left-test.true rank c.loop-left.invariant.trail c.next_outcome-next.ensures c.if-next-outcomes.true)
    ∙ c.loop-left.invariant.same

pub loop-left-preserved : goal.loop-left-preserved
loop-left-preserved c =
    let inside : c.loop-left.left - 1 < length c.args.path.now.items = omega (arith, c.loop-left.invariant.room, c.requires.room) in
    let rank = get_or_read c.args.path.now.items (c.loop-left.left - 1) c.index-rank.result.now inside c.index-rank.ensures 0 in
    let top = IsTop-trail c.args.outcomes c.loop-left.fixed c.args.path.now.items c.loop-left.left c.index-rank.result.now c.loop-left-test.true rank c.loop-left.invariant.trail in
    record {
      room = omega (arith, c.loop-left.invariant.room);
      ranks = rw c.free.ensures (length-set c.loop-left.fixed c.index-rank.result.now _ ∙ c.loop-left.invariant.ranks);
      trail = rw c.free.ensures top.above;
      same = rw c.free.ensures
          (behind-freed c.args.outcomes c.loop-left.fixed c.args.path.now.items c.loop-left.left c.index-rank.result.now c.next_outcome-next.result c.loop-left-test.true rank c.loop-left.invariant.trail c.next_outcome-next.ensures c.if-next-outcomes.false ∙ c.loop-left.invariant.same);
    }
