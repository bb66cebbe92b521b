use Rattle.std.proofs.Common.{◌≡◌, ◌+◌, drop}
use Rattle.md_space.specs.Profiles.{rank_of}
use Rattle.md_space.proofs.space.Space.rank.Given as goal

abbrev pub invariant-loop-agent : goal.invariant-loop-agent
invariant-loop-agent l = l.rank + rank_of (drop l.agent l.self) (drop l.agent l.reports) ≡ rank_of l.self l.reports
