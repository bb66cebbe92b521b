-- What the values of a group below each place add up to.
use Rattle.std.specs.Prelude.{ℕ, ◌<◌, ◌≤◌, ◌^◌, ℤ, pos, ◌-ℤ◌, ◌*ℤ◌, ◌<ℤ◌, List, length, slice_index_or}
use Rattle.md_math.specs.Sizes.{IsWithin}
use Rattle.md_list.specs.ByRule.{growth}
use Rattle.md_list_gains.specs.declared.sums.Sums.{Sums}

-- sums are at most the limit in size
pub record AreWithin (limit : ℕ) (sums : Sums) : Type 0 where
  pub weight : IsWithin limit sums.weight
  pub gain : IsWithin limit sums.gain
  pub benefit : IsWithin limit sums.benefit

-- ---- by place

abbrev pub no_sums : Sums
no_sums = record { weight = pos 0; gain = pos 0; benefit = pos 0 }

abbrev pub sums_at : List Sums → ℕ → Sums
sums_at places x = slice_index_or places x no_sums

abbrev pub weight_to : List Sums → ℕ → ℤ
weight_to places x = (sums_at places x).weight

abbrev pub gain_to : List Sums → ℕ → ℤ
gain_to places x = (sums_at places x).gain

abbrev pub benefit_to : List Sums → ℕ → ℤ
benefit_to places x = (sums_at places x).benefit

-- there is a place, sums are small, and each value has some weight
pub record IsCurve (places : List Sums) : Type 0 where
  pub some : 1 ≤ length places
  pub small : (x : ℕ) → x < length places → AreWithin (2 ^ 58) (sums_at places x)
  pub rising : (x y : ℕ) → x < y → y < length places → pos 0 <ℤ growth (weight_to places) x y

-- ---- the order

-- by how much the virtual value of some values exceeds that of others, and their mean value does, times the weights of both
abbrev pub more_gain_by : Sums → Sums → ℤ
more_gain_by sums other = sums.gain *ℤ other.weight -ℤ other.gain *ℤ sums.weight

abbrev pub more_benefit_by : Sums → Sums → ℤ
more_benefit_by sums other = sums.benefit *ℤ other.weight -ℤ other.benefit *ℤ sums.weight
