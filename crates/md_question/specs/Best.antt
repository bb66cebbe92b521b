-- The question that a setting asks by itself: which of its mechanisms is best for the designer.
use Rattle.std.specs.Prelude.{pos}
use Rattle.md_setting.specs.Setting.{GeneralSetting}
use Rattle.md_setting.specs.Rows.{column_count, row_count}
use Rattle.md_mech.specs.Admissible.{IsAdmissible}
use Rattle.md_mech.specs.Optimal.{Grows, IsOptimal}
use Rattle.md_mech.specs.Rows.{conditions_of}
use Rattle.md_mech.specs.Value.{HasValue, IsValueOf}
use Rattle.md_rows.specs.Points.{point_of}
use Rattle.md_rows.specs.ProgramOf.{forms_of}
use Rattle.md_rows.specs.Sides.{cost_in}
use Rattle.md_claims.specs.Rays.{ray_of}
use Rattle.md_question.specs.Question.{Question}

-- it admits what the setting does, and its program is the setting's, which has no level
abbrev pub best_question : GeneralSetting → Question
best_question s = record {
  setting = s;
  admits = IsAdmissible s;
  is_unmet = λ m unmet. ⊥;
  columns = column_count s;
  forms = forms_of s (conditions_of s);
  cost = cost_in s;
  rows = row_count s;
  is_value = IsValueOf s;
  has_value = HasValue s;
  is_optimal = IsOptimal s;
  grows = Grows s;
  level = λ m. pos 0;
  point = point_of s;
  ray = ray_of s;
}
