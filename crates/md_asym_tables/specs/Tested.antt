-- What is tested of numbers, to tell whether they are interim odds.
use Rattle.std.specs.Prelude.{ℕ, ◌<◌, ℤ, pos, ◌≤ℤ◌, List, length}
use Rattle.md_math.specs.Lists.{number_at}

-- each number is from 0 to the denominator
pub record AreWithin (den : ℤ) (numbers : List ℤ) : Type 0 where
  pub each : (p : ℕ) → p < length numbers → (pos 0 ≤ℤ number_at numbers p) × (number_at numbers p ≤ℤ den)
