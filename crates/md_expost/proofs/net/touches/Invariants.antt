use Rattle.std.proofs.Common.{◌≡◌, ℕ, ◌<◌, nat_lt, length, slice_index}
use Rattle.md_math.specs.Sets.{member}
use Rattle.md_setting.specs.Auction.{value_count}
use Rattle.md_expost.specs.Masses.{counts_in}
use Rattle.md_expost.proofs.net.touches.Given as goal

abbrev pub invariant-loop-rank : goal.invariant-loop-rank
invariant-loop-rank l = record {
  size_is : length l.sets ≡ l.rank;
  members : (rank v : ℕ) → rank < length l.sets → v < value_count l.auction → member (slice_index l.sets rank) v ≡ nat_lt 0 (slice_index (counts_in l.auction rank) v);
}
