-- Which mechanisms are best among the admissible ones that meet conditions of the designer, and when there is none or no best one.
use Rattle.std.specs.Prelude.{ℕ, ℤ, pos, ◌+ℤ◌, ◌*ℤ◌, ◌≤ℤ◌, List}
use Rattle.md_setting.specs.Setting.{GeneralSetting}
use Rattle.md_mech.specs.declared.mechanism.Mechanism.{Mechanism}
use Rattle.md_mech.specs.Admissible.{IsAdmissible}
use Rattle.md_mech.specs.Optimal.{raised, worth_of}
use Rattle.md_require.specs.declared.condition.Condition.{Condition}
use Rattle.md_require.specs.Conditions.{MeetsAll}

-- it is admissible, and meets the conditions
pub record IsRequired (s : GeneralSetting) (conditions : List Condition) (m : Mechanism) : Type 0 where
  pub admissible : IsAdmissible s m
  pub meets : MeetsAll s conditions m

-- so it is, and no such mechanism, with any denominator, has a greater objective
pub record IsOptimalRequired (s : GeneralSetting) (conditions : List Condition) (m : Mechanism) : Type 0 where
  pub required : IsRequired s conditions m
  pub best : (other : Mechanism) → IsRequired s conditions other → (worth_of s other *ℤ m.den) ≤ℤ (worth_of s m *ℤ other.den)

-- however often the ray is added to the payments, the mechanism stays so, and gains at least 1 each time
abbrev pub GrowsRequired : GeneralSetting → List Condition → Mechanism → List ℤ → Type 0
GrowsRequired s conditions m ray =
    (k : ℕ) → IsRequired s conditions (raised m k ray) × ((worth_of s m +ℤ pos k) ≤ℤ worth_of s (raised m k ray))
