use Rattle.std.proofs.Common.{arith}
use Rattle.md_setting.proofs.counts.count_lists.Goals as goal

pub loop-preserved : goal.loop-preserved
loop-preserved c = c.add_kind.ensures c.loop.counter (omega (arith, c.requires.kinds)) c.loop.invariant
