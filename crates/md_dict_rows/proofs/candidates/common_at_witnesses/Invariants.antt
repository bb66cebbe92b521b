use Rattle.md_dict_rows.specs.Reduce.{IsAttempt}
use Rattle.md_dict_rows.proofs.candidates.common_at_witnesses.Given as goal

abbrev pub invariant-loop-place : goal.invariant-loop-place
invariant-loop-place l = IsAttempt l.combination l.own l.taken l.divider.value
