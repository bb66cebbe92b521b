-- The program of a setting with what its points say of the setting's mechanisms.
use Rattle.md_setting.specs.Setting.{GeneralSetting}
use Rattle.md_lp.specs.Program.{Program}
use Rattle.md_rows.specs.ProgramOf.{IsProgramOf}
use Rattle.md_rows.specs.Law.{AdmitsPoints, AdmitsMechanisms, CostsPoints, CostsMechanisms}

-- the program of the setting, whose points are the admissible mechanisms and cost what these are worth
pub record IsProgramWithLaws (s : GeneralSetting) (p : Program) : Type 0 where
  pub program : IsProgramOf s p
  pub admits_points : AdmitsPoints s p
  pub admits_mechanisms : AdmitsMechanisms s p
  pub costs_points : CostsPoints s p
  pub costs_mechanisms : CostsMechanisms s p
