use Rattle.std.proofs.Common.{◌+◌, ◌^◌, ◌<◌, ◌∷◌, map, unsigned_abs}
use Rattle.md_math.specs.Divisors.{IsGcdOf}
use Rattle.md_math.specs.Lists.{number_at}
use Rattle.md_lp.specs.declared.term.Term.{Term}
use Rattle.md_require.proofs.divisors.common_divisor.Given as goal

abbrev pub invariant-loop-term : goal.invariant-loop-term
invariant-loop-term l = record {
  divisor : IsGcdOf (l.term-index + 1) (number_at (l.right ∷ map (λ (term : Term). term.value) l.terms)) l.common;
  size : unsigned_abs l.common < 2 ^ 126;
}
