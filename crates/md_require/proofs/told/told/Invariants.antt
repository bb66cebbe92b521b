use Rattle.std.proofs.Common.{◌≡◌}
use Rattle.md_math.specs.Sums.{sum_to}
use Rattle.md_require.specs.Named.{named}
use Rattle.md_require.specs.Parts.{rank_adds}
use Rattle.md_require.proofs.told.told.Given as goal

abbrev pub invariant-loop-rank : goal.invariant-loop-rank
invariant-loop-rank l = l.sum ≡ sum_to l.rank (rank_adds l.setting l.mechanism l.scaled.scale (named l.setting l.scaled.amount))
