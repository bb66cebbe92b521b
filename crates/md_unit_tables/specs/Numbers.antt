-- How many units may be sold.
use Rattle.std.specs.Prelude.{ℕ, ◌≤◌, ℤ, pos, negsuc, Bool, false, ◌&&◌, nat_le}

pub record IsUnitNumber (units : ℕ) : Type 0 where
  pub some : 1 ≤ units
  pub few : units ≤ 12

-- whether a number is such a number
abbrev pub is_unit_number : ℤ → Bool
is_unit_number (pos n) = nat_le 1 n && nat_le n 12
is_unit_number (negsuc n) = false
