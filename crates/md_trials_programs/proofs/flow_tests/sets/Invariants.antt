use Rattle.std.proofs.Common.{◌≡◌, ℕ, ◌<◌, ◌^◌, length, slice_index}
use Rattle.md_trials_programs.proofs.flow_tests.sets.Given as goal

abbrev pub invariant-loop-value : goal.invariant-loop-value
invariant-loop-value l = record {
  size_is : length l.list ≡ l.value-index;
  below : (k : ℕ) → k < length l.list → slice_index l.list k < 2 ^ l.places;
}
