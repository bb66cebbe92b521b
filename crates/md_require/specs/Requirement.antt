-- A setting with conditions of the designer.
use Rattle.std.specs.Prelude.{List}
use Rattle.md_setting.specs.Setting.{GeneralSetting}
use Rattle.md_question.specs.Question.{Question}
use Rattle.md_require.specs.declared.condition.Condition.{Condition}
use Rattle.md_require.specs.RequireQuestion.{require_question}

pub record Requirement : Type 0 where
  pub setting : GeneralSetting
  pub conditions : List Condition

-- the question that it asks
abbrev pub asked_of : Requirement → Question
asked_of r = require_question r.setting r.conditions
