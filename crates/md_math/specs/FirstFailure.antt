-- What holds at each place below a number, and the first place where it does not.
use Rattle.std.specs.Prelude.{ℕ, ◌<◌}

-- C holds at each place below n
pub record HoldsBelow (n : ℕ) (C : ℕ → Type 0) : Type 0 where
  pub holds : (k : ℕ) → k < n → C k

-- k is the first place below n where C does not hold
pub record IsFirstFailure (n : ℕ) (C : ℕ → Type 0) (k : ℕ) : Type 0 where
  pub below : k < n
  pub fails : ¬ C k
  pub before : HoldsBelow k C
