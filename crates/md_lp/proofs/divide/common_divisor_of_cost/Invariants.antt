use Rattle.std.proofs.Common.{◌^◌, ◌<◌, unsigned_abs}
use Rattle.md_math.specs.Divisors.{IsGcdOf}
use Rattle.md_math.specs.Lists.{number_at}
use Rattle.md_lp.proofs.divide.common_divisor_of_cost.Given as goal

abbrev pub invariant-loop-number : goal.invariant-loop-number
invariant-loop-number l = record { divisor : IsGcdOf l.number-index (number_at l.cost) l.common; size : unsigned_abs l.common < 2 ^ 126 }
