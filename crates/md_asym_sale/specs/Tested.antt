-- What is tested of a setting by numbers, to tell whether it is a sale.
use Rattle.std.specs.Prelude.{◌≡◌, ℕ, ◌+◌, ◌<◌, ℤ, pos, ◌≤ℤ◌, Bool, true, false, ◌==◌, List, slice_index}
use Rattle.md_space.specs.Profiles.{profile_count, profile_at}
use Rattle.md_setting.specs.Setting.{GeneralSetting}
use Rattle.md_setting.specs.Meaning.{agent_count, outcome_count, sizes_of, utility_of, outside_of}
use Rattle.md_asym_sale.specs.Sale.{IsIndependentAt}
use Rattle.md_asym_sale.specs.Values.{own_value}

-- the utility of agent i where it has the item is its own value
abbrev pub HasOwnValue : GeneralSetting → ℕ → List ℕ → Type 0
HasOwnValue s i t = (pos 0 ≤ℤ utility_of s i t (i + 1)) × (utility_of s i t (i + 1) ≡ own_value s i (slice_index t i))

-- the same, or nothing where it does not have the item
abbrev pub IsUtilityWhere : Bool → GeneralSetting → ℕ → List ℕ → ℕ → Type 0
IsUtilityWhere true s i t o = HasOwnValue s i t
IsUtilityWhere false s i t o = utility_of s i t o ≡ pos 0

abbrev pub IsUtilityAt : GeneralSetting → ℕ → ℕ → ℕ → Type 0
IsUtilityAt s r o i = IsUtilityWhere (o == i + 1) s i (profile_at (sizes_of s) r) o

-- the same of all agents, at all outcomes, and at all profiles
pub record AreUtilitiesOf (s : GeneralSetting) (r o : ℕ) : Type 0 where
  pub each : (i : ℕ) → i < agent_count s → IsUtilityAt s r o i

pub record AreUtilitiesAt (s : GeneralSetting) (r : ℕ) : Type 0 where
  pub each : (o : ℕ) → o < outcome_count s → AreUtilitiesOf s r o

pub record AreUtilities (s : GeneralSetting) : Type 0 where
  pub each : (r : ℕ) → r < profile_count (sizes_of s) → AreUtilitiesAt s r

-- no type of an agent has anything without taking part, and no type of any agent
pub record HasNothing (s : GeneralSetting) (i : ℕ) : Type 0 where
  pub each : (a : ℕ) → a < slice_index (sizes_of s) i → outside_of s i a ≡ pos 0

pub record HaveNothing (s : GeneralSetting) : Type 0 where
  pub each : (i : ℕ) → i < agent_count s → HasNothing s i

-- the types are independent at each profile
pub record AreIndependent (s : GeneralSetting) : Type 0 where
  pub each : (r : ℕ) → r < profile_count (sizes_of s) → IsIndependentAt s (profile_at (sizes_of s) r)
