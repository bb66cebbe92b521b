use Rattle.std.proofs.Common.{◌≡◌, []}
use Rattle.md_math.specs.Lists.{up_to}
use Rattle.md_require.specs.Named.{amounts_at}
use Rattle.md_require.proofs.divisors.condition_divisor.Given as goal

abbrev pub invariant-loop-rank : goal.invariant-loop-rank
invariant-loop-rank l = up_to l.rank (amounts_at l.setting l.condition.measured) ≡ []
