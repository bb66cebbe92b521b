use Rattle.std.proofs.Common.{◌≡◌, ◌*ℤ◌, take}
use Rattle.md_math.specs.Lists.{number_at}
use Rattle.md_math.specs.Sums.{total_by}
use Rattle.md_lp.specs.Stored.{shown_terms}
use Rattle.md_lp.proofs.sums.sum_of_terms.Given as goal

abbrev pub invariant-loop-term : goal.invariant-loop-term
invariant-loop-term l = l.sum ≡ total_by (λ t. t.value *ℤ number_at l.numbers t.column) (take l.term-index (shown_terms l.terms))
