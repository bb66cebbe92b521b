-- The question that a setting asks by itself has the laws of questions.
use Rattle.std.proofs.Common.{◌≡◌, ℤ, pos, ◌*ℤ◌, ◌≤ℤ◌, ◌<ℤ◌, sym, ◌∙◌, arith, le_refl}
use Rattle.std.proofs.lemmas.Int.{ints}
use Rattle.std.proofs.lemmas.List.{length-map}
use Rattle.std.proofs.lemmas.List.Elements.{All-get_or}
use Rattle.md_math.specs.Lists.{number_at}
use Rattle.md_math.proofs.Order.{positive-*ℤ}
use Rattle.md_num.specs.declared.frac.Frac.{Frac}
use Rattle.md_setting.specs.Setting.{GeneralSetting}
use Rattle.md_setting.specs.Meaning.{total_of}
use Rattle.md_setting.specs.Rows.{column_count}
use Rattle.md_setting.specs.Shaped.{IsShaped}
use Rattle.md_setting.proofs.MarginalLaws.{total-positive}
use Rattle.md_mech.specs.declared.mechanism.Mechanism.{Mechanism}
use Rattle.md_mech.specs.Accepted.{IsAccepted}
use Rattle.md_mech.specs.Admissible.{IsAdmissible}
use Rattle.md_mech.specs.Optimal.{worth_of}
use Rattle.md_mech.specs.Rows.{conditions_of}
use Rattle.md_mech.specs.Value.{IsValueOf}
use Rattle.md_mech.proofs.CountLaws.{conditions-length}
use Rattle.md_lp.specs.Program.{Program}
use Rattle.md_cert.specs.Fitting.{FitsColumns}
use Rattle.md_rows.specs.Points.{point_of}
use Rattle.md_rows.specs.ProgramOf.{form_of}
use Rattle.md_rows.proofs.Law.{admits-points}
use Rattle.md_rows.proofs.PointLaws.{mechanism-of_point, point-length, point-nonneg, point-within}
use Rattle.md_claims.proofs.FitLaws.{fits-unbounded}
use Rattle.md_claims.proofs.SettingClaims.{grows, infeasible, optimal, with_laws}
use Rattle.md_question.specs.Best.{best_question}
use Rattle.md_question.specs.Question.{IsQuestion}
use Rattle.md_question.proofs.OneFraction.{one_fraction}
use Rattle.md_question.proofs.PointCertificates.{optimal-there, unbounded-there}
use Rattle.md_question.proofs.RayFits.{same-pays}

one-value : (s : GeneralSetting) (m : Mechanism) (v w : Frac) → pos 0 <ℤ total_of s → IsAdmissible s m → IsValueOf s m v → IsValueOf s m w → v ≡ w
one-value s m v w total admissible a b =
    let den = admissible.mechanism.den in
    let whole : pos 0 <ℤ (m.den *ℤ total_of s) = positive-*ℤ m.den (total_of s) (omega (arith, ints, den)) total in
    one_fraction (worth_of s m) (m.den *ℤ total_of s) v w whole (record { same = a.is_value; least = a.least }) (record { same = b.is_value; least = b.least })

-- the point of a mechanism has a number of at most 62 bits for each column
pub point-fits : (s : GeneralSetting) (p : Program) (m : Mechanism) → p.columns ≡ column_count s → IsAccepted s m → FitsColumns p (point_of s m)
point-fits s p m columns h = record {
  one_each = point-length s m h.mechanism ∙ sym columns;
  sizes = point-within s m h;
  nonneg = λ j b. All-get_or (λ z. pos 0 ≤ℤ z) (point_of s m) j (pos 0) (omega (arith, b, point-length s m h.mechanism, columns)) (point-nonneg s m h.mechanism);
}

pub IsQuestion-best : (s : GeneralSetting) → IsShaped s → IsQuestion (best_question s)
IsQuestion-best s shaped = record {
  own_columns = le_refl (column_count s);
  row_count = length-map (conditions_of s) (form_of s) ∙ conditions-length s;
  own_point = λ p den x is meets. record { program = p; is_program = is; meets = meets };
  optimal = λ p den x is greatest. optimal s p den x (with_laws s p is) greatest;
  none = λ p is empty. infeasible s p (with_laws s p is) empty;
  grown = λ p den x ray is c. grows s p den x ray (with_laws s p is) c;
  shown = λ p den point bound is c. optimal-there s p is den (number_at point) c.meets bound.den (number_at bound.main) (number_at bound.face) c;
  shown_ray = λ p den x ray is c. unbounded-there s p is den x ray c;
  meets = λ p m is admissible. (admits-points s p is m admissible.mechanism).1 admissible;
  same_mechanism = λ m h. mechanism-of_point s m h;
  same_pays = λ pays h. same-pays s pays h;
  fits_point = λ p m is h narrow. point-fits s p m is.columns h;
  fits_ray = λ p m pays is h r. (fits-unbounded s p m pays is.columns h r).2;
  one_value = λ m v w admissible a b. one-value s m v w (total-positive s shaped) admissible a b;
  admitted = λ m h. h.admissible;
  stays = λ m pays k h. (h k).0;
  admissible = λ m h. h;
  met = λ m unmet h. absurd h;
  one_unmet = λ m unmet other h. absurd h;
}
