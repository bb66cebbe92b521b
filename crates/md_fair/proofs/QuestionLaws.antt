-- The question which mechanism is the fairest has the laws of questions.
use Rattle.std.proofs.Common.{◌+◌, ◌<◌, ◌≤◌, ℤ, pos, ◌*ℤ◌, ◌<ℤ◌, List, sym, ◌∙◌, arith}
use Rattle.std.proofs.lemmas.Int.{ints}
use Rattle.md_math.specs.Lists.{number_at}
use Rattle.md_math.specs.Sizes.{IsWithin}
use Rattle.md_math.proofs.Order.{positive-*ℤ}
use Rattle.md_setting.specs.Setting.{GeneralSetting}
use Rattle.md_setting.specs.Meaning.{agent_count, total_of}
use Rattle.md_setting.specs.Rows.{column_count}
use Rattle.md_setting.specs.Shaped.{IsShaped}
use Rattle.md_setting.proofs.MarginalLaws.{total-positive}
use Rattle.md_mech.specs.declared.mechanism.Mechanism.{Mechanism}
use Rattle.md_mech.specs.Accepted.{IsAccepted, number_limit}
use Rattle.md_mech.specs.Admissible.{IsAdmissible}
use Rattle.md_lp.specs.Program.{Program}
use Rattle.md_cert.specs.Fitting.{FitsColumns}
use Rattle.md_parts.specs.Fitting.{IsRayFor}
use Rattle.md_rows.specs.Points.{point_of}
use Rattle.md_rows.proofs.PointLaws.{point-length}
use Rattle.md_claims.specs.Rays.{ray_of}
use Rattle.md_claims.proofs.FitLaws.{fits-unbounded}
use Rattle.md_question.specs.Question.{IsQuestion}
use Rattle.md_question.proofs.BestLaws.{point-fits}
use Rattle.md_question.proofs.RayFits.{ray-length, same-pays}
use Rattle.md_fair.specs.FairPoints.{fair_point_of, fair_ray_of}
use Rattle.md_fair.specs.FairProgram.{IsFairProgram}
use Rattle.md_fair.specs.FairQuestion.{fair_question}
use Rattle.md_fair.specs.Least.{least_of}
use Rattle.md_fair.proofs.Claims.{certified-fair, certified-ray, fairest, grows-fair, none-admissible}
use Rattle.md_fair.proofs.LeastLaws.{is-least, one-value}
use Rattle.md_fair.proofs.LevelLaws.{level-fits, own-below}
use Rattle.md_fair.proofs.OwnProgram.{own-program}
use Rattle.md_fair.proofs.PointLaws.{level-meets, mechanism-there, meets-own}
use Rattle.md_fair.proofs.SameNumbers.{payments-same}
use Rattle.md_fair.proofs.Sizes.{forms-count, some-agent}

above-whole : (s : GeneralSetting) (m : Mechanism) → IsShaped s → IsAdmissible s m → pos 0 <ℤ (m.den *ℤ total_of s)
above-whole s m shaped admissible = (let den = admissible.mechanism.den in positive-*ℤ m.den (total_of s) (omega (arith, ints, den)) (total-positive s shaped))

-- the setting's certificates fit its own program, and so do those with a level behind the fair one
module _ (s : GeneralSetting) (p : Program) (is : IsFairProgram s p) (m : Mechanism) (h : IsAccepted s m) where
  point-fits_fair : IsWithin number_limit (least_of s m) → FitsColumns p (fair_point_of s m (least_of s m))
  point-fits_fair narrow =
      let (q, own) = own-program s p is in
      level-fits s (point_of s m) (least_of s m) (point-length s m h.mechanism) p q is.columns own.columns (point-fits s q m own.columns h) narrow

  ray-fits_fair : (pays : List ℤ) → IsRayFor s pays → FitsColumns p (fair_ray_of s pays)
  ray-fits_fair pays r =
      let (q, own) = own-program s p is in
      level-fits s (ray_of s pays) (pos 1) (ray-length s pays) p q is.columns own.columns (fits-unbounded s q m pays own.columns h r).2 (record { within = omega arith })

pub IsQuestion-fair : (s : GeneralSetting) → IsShaped s → IsQuestion (fair_question s)
IsQuestion-fair s shaped = record {
  own_columns = few;
  row_count = forms-count s;
  own_point = λ p den x is meets. meets-own s p is den x meets;
  optimal = λ p den x is greatest. fairest s p is some den x greatest;
  none = λ p is empty. none-admissible s p is some empty;
  grown = λ p den x ray is c. grows-fair s p is some den x ray c;
  shown = λ p den point bound is c. certified-fair s p is some den (number_at point) bound c;
  shown_ray = λ p den x ray is c. certified-ray s p is some den x ray c;
  meets = λ p m is admissible. level-meets s m (least_of s m) admissible.mechanism p is admissible (is-least s m some).at_most;
  same_mechanism = λ m h. mechanism-there s m (least_of s m) h;
  same_pays = λ pays h.
      sym (payments-same s (number_at (ray_of s pays)) (number_at (fair_ray_of s pays)) (own-below s (ray_of s pays) (pos 1) (ray-length s pays))) ∙ same-pays s pays h;
  fits_point = λ p m is h narrow. point-fits_fair s p is m h narrow;
  fits_ray = λ p m pays is h r. ray-fits_fair s p is m h pays r;
  one_value = λ m v w admissible a b. one-value s m v w (above-whole s m shaped admissible) a b;
  admitted = λ m h. h.admissible;
  stays = λ m pays k h. (h k).0;
  admissible = λ m h. h;
  met = λ m unmet h. absurd h;
  one_unmet = λ m unmet other h. absurd h;
}
  where
    some : 0 < agent_count s
    some = some-agent s shaped

    few : column_count s ≤ column_count s + 2
    few = omega arith
