use Rattle.std.proofs.Common.{◌+◌, ◌^◌, ◌<◌, unsigned_abs}
use Rattle.md_math.specs.Divisors.{IsGcdOf}
use Rattle.md_math.specs.Lists.{number_at}
use Rattle.md_simplex.specs.Reading.{with_den}
use Rattle.md_simplex.proofs.reading.common_divisor.Given as goal

abbrev pub invariant-loop-number : goal.invariant-loop-number
invariant-loop-number l = record {
  divisor : IsGcdOf (l.number-index + 1) (with_den l.first (number_at l.numbers)) l.common;
  size : unsigned_abs l.common < 2 ^ 126;
}
