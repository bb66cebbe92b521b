use Rattle.std.proofs.Common.{ℕ, ◌<◌, pos, ◌≤ℤ◌}
use Rattle.md_math.specs.Lists.{number_at}
use Rattle.md_asym_tables.proofs.odds.are_within.Given as goal

abbrev pub invariant-loop-place : goal.invariant-loop-place
invariant-loop-place l = (p : ℕ) → p < l.place → (pos 0 ≤ℤ number_at l.odds p) × (number_at l.odds p ≤ℤ l.den)
