use Rattle.std.proofs.Common.{◌≡◌, ℕ, ◌<◌, ◌^◌}
use Rattle.md_math.specs.Sets.{member}
use Rattle.md_asym_tables.specs.PairNets.{has_at}
use Rattle.md_asym_tables.proofs.pair_net.pairs_at.Given as goal

abbrev pub invariant-loop-pair : goal.invariant-loop-pair
invariant-loop-pair l = record {
  size : l.set < 2 ^ l.pair;
  members : (p : ℕ) → p < l.pair → member l.set p ≡ has_at l.setting l.rank p;
}
