use Rattle.std.proofs.Common.{◌≡◌}
use Rattle.md_math.specs.Lists.{up_to}
use Rattle.md_determ.specs.Pairs.{pairs_at}
use Rattle.md_determ.proofs.pairs.pairs_of.Given as goal

abbrev pub invariant-loop-rank : goal.invariant-loop-rank
invariant-loop-rank l = l.pairs ≡ up_to l.rank (pairs_at l.fixed)
