-- What is certified of a point and a ray is certified of the point of its mechanism and of the ray of its payments.
use Rattle.std.proofs.Common.{◌≡◌, ℕ, ◌+◌, ◌*◌, ◌<◌, Bool, true, false, ℤ, pos, negsuc, ◌*ℤ◌, ◌≤ℤ◌, ◌<ℤ◌, List, length, All, sym, ap, ◌∙◌, subst, arith, inl, inr}
use Rattle.std.proofs.lemmas.Int.{ints}
use Rattle.std.proofs.lemmas.Bool.{cases_Bool, cases_lt}
use Rattle.std.proofs.lemmas.List.{get_or_append_left, get_or_past}
use Rattle.std.proofs.lemmas.List.Elements.{All-append, All-nil, All-get_or}
use Rattle.md_math.specs.Lists.{number_at, list_to}
use Rattle.md_math.proofs.Builders.{length-list_to, get_or-list_to, All-up_to, All-list_to}
use Rattle.md_math.proofs.Order.{*ℤ_cancel}
use Rattle.md_space.specs.Profiles.{IsProfile, profile_count, profile_at, rank_of}
use Rattle.md_space.proofs.Ranks.{rank_of-below}
use Rattle.md_setting.specs.Setting.{GeneralSetting}
use Rattle.md_setting.specs.Meaning.{agent_count, outcome_count, sizes_of}
use Rattle.md_setting.specs.Rows.{column_count}
use Rattle.md_mech.specs.declared.mechanism.Mechanism.{Mechanism}
use Rattle.md_mech.specs.Mechanism.{pay_of}
use Rattle.md_mech.specs.Admissible.{IsAdmissible}
use Rattle.md_lp.specs.Program.{Program, kind_at}
use Rattle.md_lp.specs.Point.{Meets, cost_sum}
use Rattle.md_lp.proofs.Dividing.{IsDivisorFor-positive}
use Rattle.md_cert.specs.Certified.{IsOptimalCertified, IsUnboundedCertified}
use Rattle.md_cert.specs.Pairs.{RayKeeps}
use Rattle.md_rows.specs.Columns.{chance_column, first_plus, payment_in}
use Rattle.md_rows.specs.Points.{mechanism_of, point_of, plus_part, minus_part, parts, payment_parts}
use Rattle.md_rows.specs.ProgramOf.{cost_of, IsProgramOf}
use Rattle.md_rows.proofs.FormLaws.{payment-off}
use Rattle.md_rows.proofs.Law.{admits-mechanisms, admits-points, costs-points, costs-mechanisms}
use Rattle.md_rows.proofs.PointLaws.{agrees-mechanism_of, place-below}
use Rattle.md_claims.specs.Rays.{pays_along, paying, ray_of}
use Rattle.md_claims.proofs.RayLaws.{pays-along_ray}
use Rattle.md_claims.proofs.SettingClaims.{with_laws, no_chance}
use Rattle.md_question.proofs.SameForms.{IsSameForm, sums-same, cost-same}

-- ---- the point of the mechanism of a point

module _ (s : GeneralSetting) (p : Program) (is : IsProgramOf s p) (den : ℤ) (x : ℕ → ℤ) (meets : Meets p den x) where
  admissible : IsAdmissible s (mechanism_of s den x)
  admissible = admits-mechanisms s p is den x meets

  abbrev pub there : ℕ → ℤ
  there = number_at (point_of s (mechanism_of s den x))

  meets-there : Meets p den there
  meets-there = (admits-points s p is (mechanism_of s den x) admissible.mechanism).1 admissible

  above : pos 0 <ℤ p.factor
  above = IsDivisorFor-positive (column_count s) (cost_of s) p.factor is.has_cost.factor

  cost-there : cost_sum p there ≡ cost_sum p x
  cost-there =
      *ℤ_cancel p.factor (cost_sum p there) (cost_sum p x) above
      (costs-points s p is (mechanism_of s den x) admissible.mechanism ∙ sym (costs-mechanisms s p is den x))

  pub optimal-there : (over : ℤ) (main face : ℕ → ℤ) → IsOptimalCertified p den x over main face → IsOptimalCertified p den there over main face
  optimal-there over main face c = record {
    meets = meets-there;
    positive = c.positive;
    pairs = c.pairs;
    columns = c.columns;
    face_right = c.face_right;
    main_right = c.main_right ∙ ap (λ z. over *ℤ z) (sym cost-there);
  }

-- ---- the ray of the payments of a ray

parts-nonneg : (part : ℤ → ℤ) (s : GeneralSetting) (m : Mechanism) → ((z : ℤ) → pos 0 ≤ℤ part z) → All (λ z. pos 0 ≤ℤ z) (parts part s m)
parts-nonneg part s m h =
    All-up_to (λ z. pos 0 ≤ℤ z) (agent_count s) (λ i. list_to (profile_count (sizes_of s)) (λ r. part (pay_of s m i (profile_at (sizes_of s) r))))
    (λ i l. All-list_to (λ z. pos 0 ≤ℤ z) (profile_count (sizes_of s)) (λ r. part (pay_of s m i (profile_at (sizes_of s) r))) (λ r b. h (pay_of s m i (profile_at (sizes_of s) r))))

plus-nonneg : (z : ℤ) → pos 0 ≤ℤ plus_part z
plus-nonneg (pos n) = omega (arith, ints)
plus-nonneg (negsuc n) = omega (arith, ints)

minus-nonneg : (z : ℤ) → pos 0 ≤ℤ minus_part z
minus-nonneg (pos n) = omega (arith, ints)
minus-nonneg (negsuc n) = omega (arith, ints)

payments-nonneg : (on : Bool) (s : GeneralSetting) (m : Mechanism) → All (λ z. pos 0 ≤ℤ z) (payment_parts on s m)
payments-nonneg true s m = All-append (λ z. pos 0 ≤ℤ z) (parts plus_part s m) (parts minus_part s m) (parts-nonneg plus_part s m plus-nonneg) (parts-nonneg minus_part s m minus-nonneg)
payments-nonneg false s m = All-nil (λ z. pos 0 ≤ℤ z)

zeros : GeneralSetting → List ℤ
zeros s = list_to (first_plus s) (λ _. pos 0)

pub ray-nonneg : (s : GeneralSetting) (pays : List ℤ) (j : ℕ) → pos 0 ≤ℤ number_at (ray_of s pays) j
unfolding zeros
ray-nonneg s pays j = elim (cases_lt j (length (ray_of s pays))) [
  | inl l ↦ All-get_or (λ z. pos 0 ≤ℤ z) (ray_of s pays) j (pos 0) l all
  | inr past ↦ rw (get_or_past (ray_of s pays) j (pos 0) (omega (arith, past))) (omega (arith, ints))
]
  where
    all : All (λ z. pos 0 ≤ℤ z) (ray_of s pays)
    all =
        All-append (λ z. pos 0 ≤ℤ z) (zeros s) (payment_parts s.payments s (paying pays))
        (All-list_to (λ z. pos 0 ≤ℤ z) (first_plus s) (λ _. pos 0) (λ k l. omega (arith, ints)))
        (payments-nonneg s.payments s (paying pays))

ray-zero : (s : GeneralSetting) (pays : List ℤ) (k : ℕ) → k < first_plus s → number_at (ray_of s pays) k ≡ pos 0
unfolding zeros
ray-zero s pays k l =
    get_or_append_left (zeros s) (payment_parts s.payments s (paying pays)) (pos 0) k (subst (λ n. k < n) (sym (length-list_to (first_plus s) (λ _. pos 0))) l)
    ∙ get_or-list_to (first_plus s) (λ _. pos 0) k (pos 0) l

-- the numbers of the ray that adds the payments of a ray
abbrev pub along_pays : GeneralSetting → (ℕ → ℤ) → ℕ → ℤ
along_pays s ray = number_at (ray_of s (pays_along s ray))

-- they say what the ray says, where that adds to no chance
pub same-ray : (s : GeneralSetting) (ray : ℕ → ℤ) → ((r o : ℕ) → r < profile_count (sizes_of s) → o < outcome_count s → ray (r * outcome_count s + o) ≡ pos 0) → IsSameForm s (along_pays s ray) ray
same-ray s ray none = record {
  chance = λ t o b l.
      ray-zero s (pays_along s ray) (chance_column s t o) (place-below (rank_of (sizes_of s) t) (profile_count (sizes_of s)) (outcome_count s) o (rank_of-below (sizes_of s) t b) l)
      ∙ sym (none (rank_of (sizes_of s) t) o (rank_of-below (sizes_of s) t b) l);
  pay = same-pay;
}
  where
    same-pay : (i : ℕ) (t : List ℕ) → i < agent_count s → IsProfile (sizes_of s) t → payment_in s (along_pays s ray) i t ≡ payment_in s ray i t
    same-pay i t l b = elim (cases_Bool s.payments) [
      | inl on ↦
          (agrees-mechanism_of s (pos 1) (along_pays s ray)).pay i t l b
          ∙ pays-along_ray s (pays_along s ray) on (rank_of (sizes_of s) t * agent_count s + i) (place-below (rank_of (sizes_of s) t) (profile_count (sizes_of s)) (agent_count s) i (rank_of-below (sizes_of s) t b) l)
          ∙ sym ((agrees-mechanism_of s (pos 1) ray).pay i t l b)
      | inr off ↦ payment-off s (along_pays s ray) i t off ∙ sym (payment-off s ray i t off)
    ]

module _ (s : GeneralSetting) (p : Program) (is : IsProgramOf s p) (den : ℤ) (x ray : ℕ → ℤ) (c : IsUnboundedCertified p den x ray) where
  same : IsSameForm s (along_pays s ray) ray
  same = same-ray s ray (no_chance s p den x ray (with_laws s p is) c)

  gain-same : cost_sum p (along_pays s ray) ≡ cost_sum p ray
  gain-same =
      *ℤ_cancel p.factor (cost_sum p (along_pays s ray)) (cost_sum p ray) (IsDivisorFor-positive (column_count s) (cost_of s) p.factor is.has_cost.factor)
      (sym (is.has_cost.cost_is (along_pays s ray)) ∙ cost-same s (along_pays s ray) ray same ∙ is.has_cost.cost_is ray)

  pub unbounded-there : IsUnboundedCertified p den (number_at (point_of s (mechanism_of s den x))) (along_pays s ray)
  unbounded-there = record {
    meets = meets-there s p is den x c.meets;
    nonneg = λ j l. ray-nonneg s (pays_along s ray) j;
    rows = record { holds = λ r b. subst (RayKeeps (kind_at p r)) (sym (sums-same s p (along_pays s ray) ray is same r b)) (c.rows.holds r b) };
    gain = subst (λ z. pos 0 <ℤ z) (sym gain-same) c.gain;
  }
