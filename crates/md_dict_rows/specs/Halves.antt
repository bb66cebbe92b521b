-- Numbers of 32 bits.
use Rattle.std.specs.Prelude.{◌^◌, ℤ, pos, neg_ℤ, ◌≤ℤ◌, ◌<ℤ◌}

-- the number has 32 bits and its sign among them
pub record IsShort (x : ℤ) : Type 0 where
  pub least : neg_ℤ (pos (2 ^ 31)) ≤ℤ x
  pub most : x <ℤ pos (2 ^ 31)
