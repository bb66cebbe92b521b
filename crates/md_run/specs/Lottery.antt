-- One of some places, drawn by a number: each place is drawn as often as its chance says.
use Rattle.std.specs.Prelude.{ℕ, ◌+◌, ◌<◌, ℤ, pos, ◌≤ℤ◌, ◌<ℤ◌, List}
use Rattle.md_math.specs.Lists.{number_at}
use Rattle.md_math.specs.Sums.{sum_to}

-- k is the first place below n at which the chances, up to its own, add to more than the draw
pub record IsDrawnPlace (n : ℕ) (chance : ℕ → ℤ) (draw : ℤ) (k : ℕ) : Type 0 where
  pub below : k < n
  pub passes : draw <ℤ sum_to (k + 1) chance
  pub before : (j : ℕ) → j < k → sum_to (j + 1) chance ≤ℤ draw

-- there is no such place below n
pub record IsNoPlace (n : ℕ) (chance : ℕ → ℤ) (draw : ℤ) : Type 0 where
  pub at : (j : ℕ) → j < n → sum_to (j + 1) chance ≤ℤ draw

-- the chances that stand in a list from a place on
abbrev pub chances_from : List ℤ → ℕ → ℕ → ℤ
chances_from numbers start k = number_at numbers (start + k)

-- none of them is negative
abbrev pub IsChanceFrom : List ℤ → ℕ → ℕ → Type 0
IsChanceFrom numbers start k = pos 0 ≤ℤ chances_from numbers start k
