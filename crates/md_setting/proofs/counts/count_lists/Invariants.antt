use Rattle.md_setting.specs.Ways.{AreWays}
use Rattle.md_setting.proofs.counts.count_lists.Given as goal

abbrev pub invariant-loop : goal.invariant-loop
invariant-loop l = AreWays 13 l.counter l.ways
