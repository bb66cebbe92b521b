-- How large numbers are.
use Rattle.std.specs.Prelude.{ℕ, ◌<◌, ◌≤◌, ℤ, List, length, unsigned_abs}
use Rattle.md_math.specs.Lists.{number_at}

-- a number is at most the limit in size
pub record IsWithin (limit : ℕ) (z : ℤ) : Type 0 where
  pub within : unsigned_abs z ≤ limit

-- each number of a list is at most the limit in size
pub record AllWithin (limit : ℕ) (xs : List ℤ) : Type 0 where
  pub at : (k : ℕ) → k < length xs → IsWithin limit (number_at xs k)
