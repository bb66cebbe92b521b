-- Conditions that fit a setting, so that their program can always be made.
use Rattle.std.specs.Prelude.{◌^◌, ◌≤◌, pos, ◌*ℤ◌, ◌<ℤ◌, List, All, length}
use Rattle.md_math.specs.Sizes.{IsWithin}
use Rattle.md_setting.specs.Setting.{GeneralSetting}
use Rattle.md_mech.specs.Accepted.{number_limit}
use Rattle.md_require.specs.declared.condition.Condition.{Condition}
use Rattle.md_require.specs.Amounts.{Amount, amounts_of, whole_of}
use Rattle.md_require.specs.Parts.{IsNarrow}
use Rattle.md_require.specs.Places.{IsIn}
use Rattle.md_require.specs.RequireQuestion.{require_rows}

-- the numbers of the row of an amount, before they are divided, are at most 2^44 in size
pub record IsNarrowFor (s : GeneralSetting) (c : Condition) (amount : Amount) : Type 0 where
  pub parts : IsNarrow s c.den amount
  pub bound : IsWithin (2 ^ 44) (c.num *ℤ whole_of s amount)

-- a condition with a bound over a denominator of at least 1
pub record IsConditionFor (s : GeneralSetting) (c : Condition) : Type 0 where
  pub place : IsIn s c.measured
  pub positive : pos 0 <ℤ c.den
  pub num_size : IsWithin number_limit c.num
  pub den_size : IsWithin number_limit c.den
  pub narrow : All (IsNarrowFor s c) (amounts_of s c.measured)

-- at most 1,000 conditions, with at most 4,096 rows together with those of the setting
pub record AreConditionsFor (s : GeneralSetting) (conditions : List Condition) : Type 0 where
  pub each : All (IsConditionFor s) conditions
  pub few : length conditions ≤ 1000
  pub few_rows : require_rows s conditions ≤ 4096
