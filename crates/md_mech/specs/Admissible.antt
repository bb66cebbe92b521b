-- Which mechanisms a setting admits.
use Rattle.md_setting.specs.Setting.{GeneralSetting}
use Rattle.md_mech.specs.declared.mechanism.Mechanism.{Mechanism}
use Rattle.md_mech.specs.Mechanism.{IsMechanism}
use Rattle.md_mech.specs.Truth.{IsTruthful}
use Rattle.md_mech.specs.Rationality.{IsRational, HasNoDeficit}

-- a mechanism that is truthful and rational as the setting asks, with no deficit where it asks for that
pub record IsAdmissible (s : GeneralSetting) (m : Mechanism) : Type 0 where
  pub mechanism : IsMechanism s m
  pub truthful : IsTruthful s m
  pub rational : IsRational s m
  pub no_deficit : HasNoDeficit s m
