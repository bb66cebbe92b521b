use Rattle.std.proofs.Common.{◌≡◌, ℕ, ◌<◌, pos, ◌≤ℤ◌, length}
use Rattle.md_math.specs.Lists.{number_at}
use Rattle.md_trials_auctions.proofs.unit_tests.numbers.Given as goal

abbrev pub invariant-loop-value : goal.invariant-loop-value
invariant-loop-value l = record {
  size_is : length l.list ≡ l.value-index;
  nonneg : (k : ℕ) → k < length l.list → pos 0 ≤ℤ number_at l.list k;
  small : (k : ℕ) → k < length l.list → number_at l.list k ≤ℤ pos l.most;
}
