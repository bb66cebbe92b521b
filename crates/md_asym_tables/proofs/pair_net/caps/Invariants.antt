use Rattle.std.proofs.Common.{◌≡◌}
use Rattle.md_math.specs.Lists.{list_to}
use Rattle.md_asym_tables.specs.PairNets.{cap_at}
use Rattle.md_asym_tables.proofs.pair_net.caps.Given as goal

abbrev pub invariant-loop-rank : goal.invariant-loop-rank
invariant-loop-rank l = l.caps ≡ list_to l.rank (cap_at l.setting l.den)
