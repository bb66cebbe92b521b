use Rattle.std.proofs.Common.{ap, ◌∙◌}
use Rattle.md_setting.proofs.Apart.{Next, stands_twice, stands_once, name_added}
use Rattle.md_setting.proofs.names.are_apart.Goals as goal

pub returns-then-not-branch : goal.returns-then-not-branch
returns-then-not-branch g c =
    let next : Next g.T.Named.name_of c.args.items.now c.loop-item.item-index c.name.result.now = record {
      item = c.item-item.result;
      inside = c.loop-item-test.true;
      key_is = c.name.ensures ∙ ap g.T.Named.name_of c.item-item.is;
      apart = c.loop-item.invariant.0;
    } in
    stands_twice g.T.Named.name_of _ _ _ _ _ next (c.loop-item.invariant.1 c.name.result) c.in_ok-insert.ensures.added c.if-not-branch.true

pub loop-item-preserved : goal.loop-item-preserved
loop-item-preserved g c =
    let next : Next g.T.Named.name_of c.args.items.now c.loop-item.item-index c.name.result.now = record {
      item = c.item-item.result;
      inside = c.loop-item-test.true;
      key_is = c.name.ensures ∙ ap g.T.Named.name_of c.item-item.is;
      apart = c.loop-item.invariant.0;
    } in (
      stands_once g.T.Named.name_of _ _ _ _ _ next (c.loop-item.invariant.1 c.name.result) c.in_ok-insert.ensures.added c.if-not-branch.false,
      λ q. name_added g.T.Named.name_of _ _ _ q.now _ _ next (c.in_ok-insert.ensures.updates.0 q) (c.loop-item.invariant.1 q),
    )
