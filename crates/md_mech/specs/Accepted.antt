-- The mechanisms that the calls of this crate take.
use Rattle.std.specs.Prelude.{ℕ, ◌^◌, ◌-◌}
use Rattle.md_math.specs.Sizes.{IsWithin, AllWithin}
use Rattle.md_setting.specs.Setting.{GeneralSetting}
use Rattle.md_mech.specs.declared.mechanism.Mechanism.{Mechanism}
use Rattle.md_mech.specs.Mechanism.{IsMechanism}

-- the greatest size of a number of a mechanism
abbrev pub number_limit : ℕ
number_limit = 2 ^ 62 - 1

-- a mechanism of the setting whose numbers are at most 2^62 - 1 in size
pub record IsAccepted (s : GeneralSetting) (m : Mechanism) : Type 0 where
  pub mechanism : IsMechanism s m
  pub den_size : IsWithin number_limit m.den
  pub chance_size : AllWithin number_limit m.chances
  pub pay_size : AllWithin number_limit m.pays
