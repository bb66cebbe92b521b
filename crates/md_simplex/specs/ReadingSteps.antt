-- Steps of reading a dictionary: quotients, and numbers that are written at places of a list.
use Rattle.std.specs.Prelude.{◌≡◌, ◌≢◌, ℕ, ◌+◌, ◌<◌, ℤ, ◌*ℤ◌, neg_ℤ, List, length, Option, None, Some}
use Rattle.md_math.specs.Lists.{number_at}

-- n numbers, each of which times the divisor is that of f
pub record AreQuotients (n : ℕ) (by : ℤ) (f : ℕ → ℤ) (numbers : List ℤ) : Type 0 where
  pub one_each : length numbers ≡ n
  pub times : (k : ℕ) → k < n → f k ≡ by *ℤ number_at numbers k

-- what a basic column has by its row: the right side, or minus the entry in the column along which a ray goes
abbrev pub basic_number_at : ℕ → ℕ → (ℕ → ℕ → ℤ) → Option ℕ → ℕ → ℤ
basic_number_at m n e None r = e r (n + m)
basic_number_at m n e (Some column) r = neg_ℤ (e r column)

-- the list has x at the place, if it is as long, and is otherwise as it was
pub record IsPut (place : ℕ) (x : ℤ) (old new : List ℤ) : Type 0 where
  pub same_length : length new ≡ length old
  pub there : place < length old → number_at new place ≡ x
  pub others : (j : ℕ) → j ≢ place → number_at new j ≡ number_at old j
