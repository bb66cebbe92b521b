-- When the values of the admissible mechanisms that meet conditions of the designer have no bound.
use Rattle.std.specs.Prelude.{ℤ, ◌*ℤ◌, ◌<ℤ◌, List}
use Rattle.md_setting.specs.Setting.{GeneralSetting}
use Rattle.md_setting.specs.Meaning.{total_of}
use Rattle.md_mech.specs.declared.mechanism.Mechanism.{Mechanism}
use Rattle.md_mech.specs.Optimal.{worth_of}
use Rattle.md_require.specs.declared.condition.Condition.{Condition}
use Rattle.md_require.specs.Required.{IsRequired}

-- a mechanism, with any denominator, that is admissible and meets the conditions, and whose value is above the bound
pub record HasRequiredAbove (s : GeneralSetting) (conditions : List Condition) (bound : ℤ) : Type 0 where
  pub mechanism : Mechanism
  pub required : IsRequired s conditions mechanism
  pub above : (bound *ℤ (mechanism.den *ℤ total_of s)) <ℤ worth_of s mechanism

-- whatever the bound
pub record HasNoRequiredBound (s : GeneralSetting) (conditions : List Condition) : Type 0 where
  pub above : (bound : ℤ) → HasRequiredAbove s conditions bound
