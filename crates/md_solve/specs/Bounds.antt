-- When the values of the admissible mechanisms of a setting have no bound.
use Rattle.std.specs.Prelude.{ℤ, ◌*ℤ◌, ◌<ℤ◌}
use Rattle.md_setting.specs.Setting.{GeneralSetting}
use Rattle.md_setting.specs.Meaning.{total_of}
use Rattle.md_mech.specs.declared.mechanism.Mechanism.{Mechanism}
use Rattle.md_mech.specs.Admissible.{IsAdmissible}
use Rattle.md_mech.specs.Optimal.{worth_of}

-- an admissible mechanism, with any denominator, whose value is above the bound
pub record HasValueAbove (s : GeneralSetting) (bound : ℤ) : Type 0 where
  pub mechanism : Mechanism
  pub admissible : IsAdmissible s mechanism
  pub above : (bound *ℤ (mechanism.den *ℤ total_of s)) <ℤ worth_of s mechanism

-- whatever the bound
pub record HasNoBound (s : GeneralSetting) : Type 0 where
  pub above : (bound : ℤ) → HasValueAbove s bound
