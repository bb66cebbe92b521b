use Rattle.std.proofs.Common.{◌-◌, ◌≤◌, length}
use Rattle.md_dict_rows.specs.Reduce.{AreDivided, KeepsSizes}
use Rattle.md_dict_rows.proofs.least_terms.write_others.Given as goal

abbrev pub invariant-loop-place : goal.invariant-loop-place
invariant-loop-place l = (l.place ≤ length l.own) × AreDivided l.combination l.own l.taken l.attempt.divider.value l.fresh l.place × KeepsSizes l.attempt.limit l.fn.fresh l.fresh

abbrev pub decreases-loop-place : goal.decreases-loop-place
decreases-loop-place l = length l.own - l.place
