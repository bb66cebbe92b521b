use Rattle.std.proofs.Common.{ℕ}
use Rattle.std.specs.Int.{IsGcd}
use Rattle.md_find_numbers.proofs.divisors.gcd.Given as goal

-- what is the gcd of the two numbers is that of the two at the start
abbrev pub invariant-loop-b : goal.invariant-loop-b
invariant-loop-b l = (g : ℕ) → IsGcd l.a l.b g → IsGcd l.fn.first l.fn.second g

abbrev pub decreases-loop-b : goal.decreases-loop-b
decreases-loop-b l = l.b
