use Rattle.std.proofs.Common.{pos}
use Rattle.md_math.specs.Divisors.{IsGcdOf}
use Rattle.md_math.specs.Lists.{number_at}
use Rattle.md_list_check.proofs.divisors.divisor_of.Given as goal

abbrev pub invariant-loop-weight : goal.invariant-loop-weight
invariant-loop-weight l = IsGcdOf l.weight-index (number_at l.weights) (pos l.divisor)
