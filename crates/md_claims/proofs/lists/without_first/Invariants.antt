use Rattle.std.proofs.Common.{◌≡◌, ℕ, pos}
use Rattle.md_math.specs.Lists.{list_to}
use Rattle.md_claims.proofs.lists.without_first.Given as goal

abbrev pub invariant-loop : goal.invariant-loop
invariant-loop l = l.list ≡ list_to l.counter (λ (_ : ℕ). pos 0)
