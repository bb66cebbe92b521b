-- Numbers that are compared by the first place where they differ.
use Rattle.std.specs.Prelude.{◌≡◌, ◌⊎◌, ℕ, ◌<◌, ℤ, pos, ◌≤ℤ◌, ◌<ℤ◌}

-- a pair is lexicographically not negative: its first number is positive, or it is 0 and the second is at least 0
abbrev pub IsPairNonNegative : ℤ → ℤ → Type 0
IsPairNonNegative first second = (pos 0 <ℤ first) ⊎ ((first ≡ pos 0) × (pos 0 ≤ℤ second))

-- a pair is lexicographically positive: its first number is positive, or it is 0 and the second is positive
abbrev pub IsPairPositive : ℤ → ℤ → Type 0
IsPairPositive first second = (pos 0 <ℤ first) ⊎ ((first ≡ pos 0) × (pos 0 <ℤ second))

-- the first of n numbers that is not 0 is positive, and there is one
pub record IsLexPositive (n : ℕ) (f : ℕ → ℤ) : Type 0 where
  pub place : ℕ
  pub inside : place < n
  pub before : (k : ℕ) → k < place → f k ≡ pos 0
  pub positive : pos 0 <ℤ f place

-- the first of n numbers that is not 0 is positive, if there is one
pub record IsLexNonNegative (n : ℕ) (f : ℕ → ℤ) : Type 0 where
  pub at : (k : ℕ) → k < n → ((j : ℕ) → j < k → f j ≡ pos 0) → pos 0 ≤ℤ f k
