use Rattle.std.proofs.Common.{◌≡◌, ◌+◌, true, pos, slice_index_or}
use Rattle.std.specs.Prelude.{int_le}
use Rattle.md_setting.specs.Refusals.{all_below}
use Rattle.md_setting.proofs.grouped_weights.are_falling.Given as goal

abbrev pub invariant-loop-place : goal.invariant-loop-place
invariant-loop-place l = all_below l.place (λ h. int_le (slice_index_or l.slots (h + 1) (pos 0)) (slice_index_or l.slots h (pos 0))) ≡ true
