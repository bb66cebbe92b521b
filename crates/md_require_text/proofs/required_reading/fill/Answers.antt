use Rattle.std.proofs.Common.{◌≤◌, length, arith}
use Rattle.md_require_text.proofs.ShadowLaws.{filled-more}
use Rattle.md_require_text.proofs.required_reading.fill.Goals as goal

pub loop-index-preserved : goal.loop-index-preserved
loop-index-preserved c =
    let old = c.args.shadows.now.items in
    let long : length old ≤ c.loop-index.index = omega (arith, c.loop-index.auto.index, c.len-index.ensures) in
    filled-more old c.loop-index.shadows.items c.push.new.self.items c.loop-index.index long c.loop-index.invariant c.in_ok-push.ensures.items
