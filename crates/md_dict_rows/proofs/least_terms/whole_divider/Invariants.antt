use Rattle.md_math.specs.Divisors.{IsCommonDivisor}
use Rattle.md_dict_rows.specs.Combination.{combined}
use Rattle.md_dict_rows.specs.Reduce.{IsAttempt}
use Rattle.md_dict_rows.proofs.least_terms.whole_divider.Given as goal

abbrev pub invariant-loop-place : goal.invariant-loop-place
invariant-loop-place l = IsAttempt l.combination l.own l.taken l.divider.value × IsCommonDivisor l.place (combined l.combination l.own l.taken) l.divider.value
