use Rattle.std.proofs.Common.{◌≡◌, pos}
use Rattle.md_dict_rows.specs.Reduce.{IsAttempt}
use Rattle.md_dict_rows.proofs.candidates.short_common_at_witnesses.Given as goal

abbrev pub invariant-loop-place : goal.invariant-loop-place
invariant-loop-place l = IsAttempt l.combination l.own l.taken l.divider.value × (l.divider.value ≡ pos l.divider.low)
