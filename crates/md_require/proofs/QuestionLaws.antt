-- The question which mechanism is best among those that meet conditions of the designer has the laws of questions.
use Rattle.std.proofs.Common.{List, refl, le_refl}
use Rattle.md_math.specs.Lists.{number_at}
use Rattle.md_setting.specs.Setting.{GeneralSetting}
use Rattle.md_setting.specs.Rows.{column_count}
use Rattle.md_setting.specs.Shaped.{IsShaped}
use Rattle.md_rows.proofs.PointLaws.{mechanism-of_point}
use Rattle.md_claims.proofs.FitLaws.{fits-unbounded}
use Rattle.md_question.specs.Question.{IsQuestion}
use Rattle.md_question.proofs.BestLaws.{IsQuestion-best, point-fits}
use Rattle.md_question.proofs.RayFits.{same-pays}
use Rattle.md_require.specs.declared.condition.Condition.{Condition}
use Rattle.md_require.specs.Places.{AreIn}
use Rattle.md_require.specs.RequireQuestion.{require_question}
use Rattle.md_require.proofs.Claims.{certified-point, certified-ray, grown, none, optimal}
use Rattle.md_require.proofs.OwnProgram.{meets-own}
use Rattle.md_require.proofs.PointLaws.{meets-required}
use Rattle.md_require.proofs.UnmetLaws.{one-unmet, unmet-not_met}

pub IsQuestion-require : (s : GeneralSetting) (conditions : List Condition) → IsShaped s → AreIn s conditions → IsQuestion (require_question s conditions)
IsQuestion-require s conditions shaped placed = record {
  own_columns = le_refl (column_count s);
  row_count = refl;
  own_point = λ p den x is meets. meets-own s conditions p is den x meets;
  optimal = λ p den x is greatest. optimal s conditions placed p is den x greatest;
  none = λ p is empty. none s conditions placed p is empty;
  grown = λ p den x ray is c. grown s conditions placed p is den x ray c;
  shown = λ p den point bound is c. certified-point s conditions placed p is den (number_at point) bound c;
  shown_ray = λ p den x ray is c. certified-ray s conditions placed p is den x ray c;
  meets = λ p m is h. meets-required s conditions placed p is m h;
  same_mechanism = λ m h. mechanism-of_point s m h;
  same_pays = λ pays h. same-pays s pays h;
  fits_point = λ p m is h narrow. point-fits s p m is.columns h;
  fits_ray = λ p m pays is h r. (fits-unbounded s p m pays is.columns h r).2;
  one_value = λ m v w h a b. (IsQuestion-best s shaped).one_value m v w h.admissible a b;
  admitted = λ m h. h.required;
  stays = λ m pays k h. (h k).0;
  admissible = λ m h. h.admissible;
  met = λ m unmet h required. unmet-not_met s m conditions unmet h required.meets;
  one_unmet = λ m unmet other h k. one-unmet s m conditions unmet other h k;
}
