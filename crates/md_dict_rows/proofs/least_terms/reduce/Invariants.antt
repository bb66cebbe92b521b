use Rattle.std.proofs.Common.{unsigned_abs}
use Rattle.md_dict_rows.specs.Reduce.{IsAttempt, KeepsSizes}
use Rattle.md_dict_rows.proofs.least_terms.reduce.Given as goal

abbrev pub invariant-loop-size : goal.invariant-loop-size
invariant-loop-size l = IsAttempt l.combination l.own l.taken l.divider.value × KeepsSizes l.limit l.fn.fresh l.fresh

abbrev pub decreases-loop-size : goal.decreases-loop-size
decreases-loop-size l = unsigned_abs l.divider.value
