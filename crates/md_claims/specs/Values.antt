-- When the value of a mechanism is another one than a printed fraction.
use Rattle.md_num.specs.declared.frac.Frac.{Frac}
use Rattle.md_setting.specs.Setting.{GeneralSetting}
use Rattle.md_mech.specs.declared.mechanism.Mechanism.{Mechanism}
use Rattle.md_mech.specs.Value.{HasValue, IsValueOf}

-- the value is this one, in least terms, and not the printed fraction
pub record IsOtherValue (s : GeneralSetting) (m : Mechanism) (printed value : Frac) : Type 0 where
  pub other : ¬ HasValue s m printed
  pub right : IsValueOf s m value
