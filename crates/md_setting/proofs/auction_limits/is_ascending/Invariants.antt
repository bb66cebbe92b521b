use Rattle.std.proofs.Common.{◌≡◌, ◌+◌, true, pos, slice_index_or}
use Rattle.std.specs.Prelude.{int_lt}
use Rattle.md_setting.specs.Refusals.{all_below}
use Rattle.md_setting.proofs.auction_limits.is_ascending.Given as goal

abbrev pub invariant-loop-place : goal.invariant-loop-place
invariant-loop-place l = all_below l.place (λ k. int_lt (slice_index_or l.values k (pos 0)) (slice_index_or l.values (k + 1) (pos 0))) ≡ true
