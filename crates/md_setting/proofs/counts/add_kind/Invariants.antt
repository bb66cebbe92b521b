use Rattle.std.proofs.Common.{ℕ, ◌<◌}
use Rattle.md_setting.specs.Ways.{AreWays, AreWaysTo}
use Rattle.md_setting.proofs.counts.add_kind.Given as goal

abbrev pub invariant-loop-bidders : goal.invariant-loop-bidders
invariant-loop-bidders l = (kinds : ℕ) → kinds < 12 → AreWays 13 kinds l.fn.ways → AreWaysTo 13 kinds l.bidders l.ways
