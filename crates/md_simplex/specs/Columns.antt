-- The columns in the order in which they are tried.
use Rattle.std.specs.Prelude.{ℕ, suc, ◌-◌, ◌<◌}
use Rattle.md_simplex.specs.declared.order.Order.{Order}
use Rattle.md_simplex.specs.declared.order.Order.TheVariants.{Forward, Backward}

-- the column that is tried at a place, of n columns
abbrev pub tried_at : Order → ℕ → ℕ → ℕ
tried_at Forward n place = place
tried_at Backward n place = n - suc place

-- P holds of none of the columns below n
pub record HasNoColumn (n : ℕ) (P : ℕ → Type 0) : Type 0 where
  pub none : (j : ℕ) → j < n → ¬ P j
