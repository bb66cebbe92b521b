-- What is known of a condition by its record alone.
use Rattle.std.specs.Prelude.{pos, ◌<ℤ◌}
use Rattle.md_math.specs.Sizes.{IsWithin}
use Rattle.md_setting.specs.Setting.{GeneralSetting}
use Rattle.md_mech.specs.Accepted.{number_limit}
use Rattle.md_require.specs.declared.condition.Condition.{Condition}
use Rattle.md_require.specs.Places.{IsIn}

-- what it names is there, and its bound is a fraction of numbers of at most 62 bits
pub record IsTold (s : GeneralSetting) (c : Condition) : Type 0 where
  pub place : IsIn s c.measured
  pub positive : pos 0 <ℤ c.den
  pub num_size : IsWithin number_limit c.num
  pub den_size : IsWithin number_limit c.den
