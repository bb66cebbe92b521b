-- When the leasts of the admissible mechanisms of a setting have no bound.
use Rattle.std.specs.Prelude.{ℤ, ◌*ℤ◌, ◌<ℤ◌}
use Rattle.md_setting.specs.Setting.{GeneralSetting}
use Rattle.md_setting.specs.Meaning.{total_of}
use Rattle.md_mech.specs.declared.mechanism.Mechanism.{Mechanism}
use Rattle.md_mech.specs.Admissible.{IsAdmissible}
use Rattle.md_fair.specs.Least.{IsLeast}

-- an admissible mechanism, with any denominator, whose least is above the bound
pub record HasLeastAbove (s : GeneralSetting) (bound : ℤ) : Type 0 where
  pub mechanism : Mechanism
  pub least : ℤ
  pub admissible : IsAdmissible s mechanism
  pub is_least : IsLeast s mechanism least
  pub above : (bound *ℤ (mechanism.den *ℤ total_of s)) <ℤ least

-- whatever the bound
pub record HasNoLeastBound (s : GeneralSetting) : Type 0 where
  pub above : (bound : ℤ) → HasLeastAbove s bound
