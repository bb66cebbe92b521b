use Rattle.std.proofs.Common.{ℕ, ◌<◌, ◌≢◌, None}
use Rattle.md_determ_branching.specs.Fixed.{fixed_at}
use Rattle.md_determ_branching.proofs.fixed.Fixed.first_free.Given as goal

abbrev pub invariant-loop-rank : goal.invariant-loop-rank
invariant-loop-rank l = (lower : ℕ) → lower < l.rank → fixed_at l.self lower ≢ None
