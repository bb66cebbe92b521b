-- Mechanisms with conditions of the designer that they are to meet.
use Rattle.std.specs.Prelude.{◌≤◌, List, All, length, Option, None, Some}
use Rattle.md_setting.specs.Setting.{GeneralSetting}
use Rattle.md_mech.specs.Accepted.{IsAccepted}
use Rattle.md_mech.specs.declared.mechanism.Mechanism.{Mechanism}
use Rattle.md_require.specs.declared.condition.Condition.{Condition}
use Rattle.md_require.specs.Limits.{IsConditionFor}

-- a mechanism, and the conditions of the designer that it is to meet beside those of the setting
pub record Proposed : Type 0 where
  pub mechanism : Mechanism
  pub conditions : List Condition

-- a mechanism, where there is one, with these conditions
abbrev pub proposed_under : List Condition → Option Mechanism → Option Proposed
proposed_under conditions None = None
proposed_under conditions (Some mechanism) = Some record { mechanism = mechanism; conditions = conditions }

-- each of some conditions fits the setting, and there are at most 1,000 of them
pub record AreAsked (s : GeneralSetting) (conditions : List Condition) : Type 0 where
  pub each : All (IsConditionFor s) conditions
  pub few : length conditions ≤ 1000

-- the mechanism has the sizes of the setting, with numbers in their ranges, and such conditions
pub record IsProposedFor (s : GeneralSetting) (proposed : Proposed) : Type 0 where
  pub accepted : IsAccepted s proposed.mechanism
  pub conditions : AreAsked s proposed.conditions
