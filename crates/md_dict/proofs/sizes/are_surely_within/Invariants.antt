use Rattle.std.proofs.Common.{ℕ, ◌<◌, ◌≤◌, unsigned_abs}
use Rattle.md_math.specs.Lists.{number_at}
use Rattle.md_dict.proofs.sizes.are_surely_within.Given as goal

abbrev pub invariant-loop-x : goal.invariant-loop-x
invariant-loop-x l = (k : ℕ) → k < l.x-index → unsigned_abs (number_at l.numbers k) ≤ l.joined
