-- The question which mechanism of a setting is the fairest.
use Rattle.std.specs.Prelude.{ℕ, ◌+◌}
use Rattle.md_setting.specs.Setting.{GeneralSetting}
use Rattle.md_setting.specs.Meaning.{agent_count}
use Rattle.md_setting.specs.Rows.{column_count, row_count}
use Rattle.md_mech.specs.Admissible.{IsAdmissible}
use Rattle.md_question.specs.Question.{Question}
use Rattle.md_fair.specs.Fairest.{GrowsFair, IsOptimalFair}
use Rattle.md_fair.specs.FairPoints.{fair_point_of, fair_ray_of}
use Rattle.md_fair.specs.FairProgram.{fair_forms, level_in}
use Rattle.md_fair.specs.Least.{IsLeastValueOf, least_of}

-- how many rows the fair program has
abbrev pub fair_rows : GeneralSetting → ℕ
fair_rows s = row_count s + agent_count s

-- It admits what the setting does. Its program is the fair one, and the value of a mechanism is its least in least terms. The least is the level of its point, and
-- the ray of payments raises the level by 1.
abbrev pub fair_question : GeneralSetting → Question
fair_question s = record {
  setting = s;
  admits = IsAdmissible s;
  is_unmet = λ m unmet. ⊥;
  columns = column_count s + 2;
  forms = fair_forms s;
  cost = level_in s;
  rows = fair_rows s;
  is_value = IsLeastValueOf s;
  has_value = IsLeastValueOf s;
  is_optimal = IsOptimalFair s;
  grows = GrowsFair s;
  level = least_of s;
  point = λ m. fair_point_of s m (least_of s m);
  ray = fair_ray_of s;
}
