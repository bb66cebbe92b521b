use Rattle.std.proofs.Common.{arith}
use Rattle.md_setting.proofs.CountLaws.{AreWaysTo-first, AreWaysTo-more, AreWays-done, way_small}
use Rattle.md_setting.proofs.counts.add_kind.Goals as goal

pub loop-bidders-init : goal.loop-bidders-init
loop-bidders-init c = λ kinds k h. AreWaysTo-first kinds _ h

pub loop-bidders-preserved : goal.loop-bidders-preserved
loop-bidders-preserved c =
    λ kinds k h.
    let so_far = c.loop-bidders.invariant kinds k h in
    let small = way_small kinds c.loop-bidders.bidders _ k c.loop-bidders-test.true (omega arith) so_far in
    AreWaysTo-more kinds c.loop-bidders.bidders _ c.saturating_add.result (omega arith) c.loop-bidders-test.true so_far (omega (arith, c.saturating_add.ensures, small))

pub returns : goal.returns
returns c = λ kinds k h. AreWays-done kinds c.loop-bidders.bidders _ (omega arith) (c.loop-bidders.invariant kinds k h)
