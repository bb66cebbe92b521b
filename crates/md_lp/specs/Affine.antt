-- Worths that are affine functions of a program's cost.
use Rattle.std.specs.Prelude.{◌≡◌, ℕ, ℤ, ◌+ℤ◌, ◌*ℤ◌}
use Rattle.md_lp.specs.Program.{Program}
use Rattle.md_lp.specs.Point.{Meets, cost_sum}

-- what has this worth over a denominator stands at a point of the program, over a multiple of the denominator; as often its
-- worth is a part for the point's denominator and a multiple of the point's cost
pub record StandsAt (p : Program) (base scale times den : ℤ) (y : ℕ → ℤ) (worth : ℤ) : Type 0 where
  pub meets : Meets p (times *ℤ den) y
  pub costs : times *ℤ worth ≡ base *ℤ (times *ℤ den) +ℤ scale *ℤ cost_sum p y
