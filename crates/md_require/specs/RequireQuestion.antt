-- The question which mechanism of a setting is best among those that meet conditions of the designer.
use Rattle.std.specs.Prelude.{pos, ℕ, List, length}
use Rattle.md_setting.specs.Setting.{GeneralSetting}
use Rattle.md_setting.specs.Rows.{column_count}
use Rattle.md_mech.specs.Value.{HasValue, IsValueOf}
use Rattle.md_rows.specs.Points.{point_of}
use Rattle.md_rows.specs.Sides.{cost_in}
use Rattle.md_claims.specs.Rays.{ray_of}
use Rattle.md_question.specs.Question.{Question}
use Rattle.md_require.specs.declared.condition.Condition.{Condition}
use Rattle.md_require.specs.Conditions.{IsFirstUnmet}
use Rattle.md_require.specs.RequireProgram.{require_forms}
use Rattle.md_require.specs.Required.{GrowsRequired, IsOptimalRequired, IsRequired}

-- how many rows its program has
abbrev pub require_rows : GeneralSetting → List Condition → ℕ
require_rows s conditions = length (require_forms s conditions)

-- It admits what is admissible and meets the conditions; values, points and rays are those of the setting's own question.
abbrev pub require_question : GeneralSetting → List Condition → Question
require_question s conditions = record {
  setting = s;
  admits = IsRequired s conditions;
  is_unmet = IsFirstUnmet s conditions;
  columns = column_count s;
  forms = require_forms s conditions;
  cost = cost_in s;
  rows = require_rows s conditions;
  is_value = IsValueOf s;
  has_value = HasValue s;
  is_optimal = IsOptimalRequired s conditions;
  grows = GrowsRequired s conditions;
  level = λ m. pos 0;
  point = point_of s;
  ray = ray_of s;
}
