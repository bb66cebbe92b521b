use Rattle.std.proofs.Common.{◌≡◌, ℕ, ◌<◌, ◌^◌, nat_lt, slice_index}
use Rattle.md_math.specs.Sets.{member}
use Rattle.md_expost.specs.Masses.{counts_in}
use Rattle.md_expost.proofs.net.kinds_at.Given as goal

abbrev pub invariant-loop-kind : goal.invariant-loop-kind
invariant-loop-kind l = record {
  size : l.set < 2 ^ l.kind;
  members : (v : ℕ) → v < l.kind → member l.set v ≡ nat_lt 0 (slice_index (counts_in l.auction l.rank) v);
}
