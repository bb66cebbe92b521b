use Rattle.std.proofs.Common.{◌≡◌, ℕ, ◌<◌, length, slice_index}
use Rattle.md_math.specs.Sets.{member}
use Rattle.md_asym_tables.specs.PairNets.{has_at}
use Rattle.md_asym_sale.specs.Values.{pairs_of}
use Rattle.md_asym_tables.proofs.pair_net.touches.Given as goal

abbrev pub invariant-loop-rank : goal.invariant-loop-rank
invariant-loop-rank l = record {
  size_is : length l.sets ≡ l.rank;
  members : (r p : ℕ) → r < length l.sets → p < pairs_of l.setting → member (slice_index l.sets r) p ≡ has_at l.setting r p;
}
