-- What a certificate claims of its program, over all points: their numbers and denominators have no bounds.
use Rattle.std.specs.Prelude.{ℕ, ℤ, pos, ◌+ℤ◌, ◌*ℤ◌, ◌≤ℤ◌}
use Rattle.md_lp.specs.Program.{Program}
use Rattle.md_lp.specs.Point.{Meets, cost_sum}

-- the point meets the program, and no point that meets it has a greater cost over its denominator
pub record IsOptimalPoint (p : Program) (den : ℤ) (x : ℕ → ℤ) : Type 0 where
  pub meets : Meets p den x
  pub greatest : (e : ℤ) (y : ℕ → ℤ) → Meets p e y → (den *ℤ cost_sum p y) ≤ℤ (e *ℤ cost_sum p x)

-- no point meets the program
pub record HasNoPoint (p : Program) : Type 0 where
  pub none : (e : ℤ) (y : ℕ → ℤ) → ¬ Meets p e y

-- the point with k times the ray added
abbrev pub along : (ℕ → ℤ) → ℕ → (ℕ → ℤ) → ℕ → ℤ
along x k ray j = x j +ℤ pos k *ℤ ray j

-- however often the ray is added, the point meets the program, and its cost grows by at least as much
pub record GrowsAlong (p : Program) (den : ℤ) (x ray : ℕ → ℤ) : Type 0 where
  pub meets : (k : ℕ) → Meets p den (along x k ray)
  pub gains : (k : ℕ) → (cost_sum p x +ℤ pos k) ≤ℤ cost_sum p (along x k ray)
