-- Levels of records, which claim to be their virtual values, value by value. The sums of weights and gains are those of the values
-- below each place.
use Rattle.std.specs.Prelude.{◌≡◌, ℕ, suc, ◌<◌, ◌≤◌, ◌^◌, ℤ, pos, ◌*ℤ◌, ◌<ℤ◌, Bool, true, false, List, length}
use Rattle.md_math.specs.Sizes.{IsWithin}
use Rattle.md_num.specs.declared.frac.Frac.{Frac}
use Rattle.md_list.specs.ByRule.{growth}
use Rattle.md_list.specs.Valid.{level_at}

-- the numbers of a level are in range, and its denominator is positive
pub record IsLevel (level : Frac) : Type 0 where
  pub positive : pos 0 <ℤ level.den
  pub num : IsWithin (2 ^ 62) level.num
  pub den : IsWithin (2 ^ 62) level.den

pub record AreLevels (levels : List Frac) : Type 0 where
  pub each : (p : ℕ) → p < length levels → IsLevel (level_at levels p)

-- What the values of a record up to one of them gain, times the denominator of a level, and what they would gain by the level:
-- their weights, times its numerator. The record begins at value number `first`.
abbrev pub gain_side : (ℕ → ℤ) → ℕ → Frac → ℕ → ℤ
gain_side gain first level v = level.den *ℤ growth gain first (suc v)

abbrev pub weight_side : (ℕ → ℤ) → ℕ → Frac → ℕ → ℤ
weight_side weight first level v = level.num *ℤ growth weight first (suc v)

-- Up to a value below the greatest one of a record, its values gain more than by the level; up to the greatest they gain just as
-- much.
pub record KeepsLevel (weight gain : ℕ → ℤ) (first stop : ℕ) (level : Frac) (v : ℕ) : Type 0 where
  pub lower : suc v < stop → weight_side weight first level v <ℤ gain_side gain first level v
  pub greatest : suc v ≡ stop → gain_side gain first level v ≡ weight_side weight first level v

-- the same by whether the value is the greatest one, of both sides
abbrev pub AreKept : Bool → ℤ → ℤ → Type 0
AreKept true left right = left ≡ right
AreKept false left right = right <ℤ left

-- each value of the record below a number keeps the level
pub record KeepsFrom (weight gain : ℕ → ℤ) (first stop : ℕ) (level : Frac) (n : ℕ) : Type 0 where
  pub keeps : (v : ℕ) → first ≤ v → v < n → KeepsLevel weight gain first stop level v

-- the first value of the record that does not
pub record IsFirstUnkept (weight gain : ℕ → ℤ) (first stop : ℕ) (level : Frac) (value : ℕ) : Type 0 where
  pub from : first ≤ value
  pub below : value < stop
  pub fails : ¬ KeepsLevel weight gain first stop level value
  pub before : KeepsFrom weight gain first stop level value
