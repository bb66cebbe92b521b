-- What is known of parts that were read, and what they must be to be written.
use Rattle.std.specs.Prelude.{◌≡◌, ℕ, ◌*◌, ◌-◌, ◌^◌, ◌<◌, ℤ, pos, ◌≤ℤ◌, false, List, length, All}
use Rattle.md_math.specs.Lists.{number_at}
use Rattle.md_math.specs.Sizes.{IsWithin, AllWithin}
use Rattle.md_space.specs.Profiles.{profile_count}
use Rattle.md_setting.specs.Setting.{GeneralSetting}
use Rattle.md_setting.specs.Meaning.{agent_count, sizes_of}
use Rattle.md_lp.specs.declared.pivot.Pivot.{Pivot}
use Rattle.md_lp.specs.declared.wide.Wide.{Wide}
use Rattle.md_cert.specs.declared.bound.Bound.{Bound}
use Rattle.md_cert.specs.Fitting.{IsDenominator}

-- a number over a denominator of at least 1, both of at most 126 bits
pub record IsFraction (num den : ℤ) : Type 0 where
  pub positive : pos 1 ≤ℤ den
  pub num_size : IsWithin (2 ^ 126 - 1) num
  pub den_size : IsWithin (2 ^ 126 - 1) den

-- a multiplier of at most 62 bits for each of so many rows
pub record AreMultipliers (rows : ℕ) (numbers : List ℤ) : Type 0 where
  pub one_each : length numbers ≡ rows
  pub sizes : AllWithin (2 ^ 62 - 1) numbers

-- both kinds of multipliers of so many rows, over a denominator
pub record IsBoundOver (rows : ℕ) (bound : Bound) : Type 0 where
  pub den : IsDenominator bound.den
  pub main : AreMultipliers rows bound.main
  pub face : AreMultipliers rows bound.face

-- a number for each profile and agent, which is 0 where payments are off
pub record IsRayFor (s : GeneralSetting) (ray : List ℤ) : Type 0 where
  pub one_each : length ray ≡ profile_count (sizes_of s) * agent_count s
  pub sizes : AllWithin (2 ^ 62 - 1) ray
  pub off : s.payments ≡ false → (k : ℕ) → number_at ray k ≡ pos 0

-- the entry is a fraction
abbrev pub HasFraction : Wide → Type 0
HasFraction wide = IsFraction wide.entry.num wide.entry.den

-- a row and a column, as the types of pivots and entries hold them
pub record IsTablePlace (row column : ℕ) : Type 0 where
  pub row_in : row < 2 ^ 32
  pub column_in : column < 2 ^ 32

-- the places of a path and of the entry at its end are as their types hold them
abbrev pub HasWidePlaces : Wide → Type 0
HasWidePlaces wide = All (λ (p : Pivot). IsTablePlace p.row p.column) wide.path × IsTablePlace wide.entry.row wide.entry.column
