-- From what a certificate claims of the program with conditions to what is so of the setting.
use Rattle.std.proofs.Common.{◌≡◌, ℕ, zero, suc, ◌+◌, ◌*◌, ◌<◌, ℤ, pos, ◌+ℤ◌, ◌*ℤ◌, ◌<ℤ◌, List, [], ◌∷◌, length, get_or, All, sym, ap, ◌∙◌, subst, arith}
use Rattle.std.specs.Prelude.{flat_map}
use Rattle.std.proofs.lemmas.Int.{ints}
use Rattle.std.proofs.lemmas.List.Elements.{All-append, All-head, All-map, All-nil, All-tail}
use Rattle.md_math.specs.Lists.{number_at}
use Rattle.md_math.proofs.Order.{*ℤ_cancel}
use Rattle.md_math.proofs.Ring.{linear, one-*ℤ, zero-*ℤ}
use Rattle.md_setting.specs.Setting.{GeneralSetting}
use Rattle.md_setting.specs.Rows.{column_count}
use Rattle.md_setting.specs.Meaning.{outcome_count, sizes_of}
use Rattle.md_space.specs.Profiles.{profile_count}
use Rattle.md_mech.specs.declared.mechanism.Mechanism.{Mechanism}
use Rattle.md_mech.specs.Optimal.{worth_of}
use Rattle.md_mech.specs.Rows.{conditions_of}
use Rattle.md_lp.specs.declared.row_kind.RowKind.TheVariants.{AtMost}
use Rattle.md_lp.specs.Program.{Program, Row, kind_at, left_of, row_at, row_count}
use Rattle.md_lp.specs.Point.{Meets, cost_sum, row_sum}
use Rattle.md_lp.proofs.Dividing.{IsDivisorFor-positive}
use Rattle.md_cert.specs.Certified.{Certified, IsOptimalCertified, IsUnboundedCertified}
use Rattle.md_cert.specs.Claims.{IsOptimalPoint, HasNoPoint, GrowsAlong, along}
use Rattle.md_cert.specs.Pairs.{RayKeeps}
use Rattle.md_cert.specs.declared.bound.Bound.{Bound}
use Rattle.md_cert.proofs.AffineLaws.{best-affine}
use Rattle.md_cert.proofs.Duality.{unbounded-claim}
use Rattle.md_forms.specs.Forms.{Form, number_of}
use Rattle.md_forms.specs.ProgramOf.{AreRowsOf, IsRowOf}
use Rattle.md_rows.specs.Points.{mechanism_of, point_of}
use Rattle.md_rows.specs.ProgramOf.{cost_of, form_of, forms_of}
use Rattle.md_rows.proofs.Law.{conditions-placed, costs-mechanisms, costs-points}
use Rattle.md_claims.specs.Laws.{IsProgramWithLaws}
use Rattle.md_claims.specs.Rays.{pays_along}
use Rattle.md_claims.proofs.RayLaws.{mechanism-along}
use Rattle.md_claims.proofs.SettingClaims.{grows, no_chance, with_laws}
use Rattle.md_question.specs.Question.{AdmitsNone, optimal_certificate, unbounded_certificate}
use Rattle.md_question.proofs.PointCertificates.{along_pays, ray-nonneg, same-ray, unbounded-there}
use Rattle.md_question.proofs.SameForms.{IsSameForm, side-same}
use Rattle.md_require.specs.declared.condition.Condition.{Condition}
use Rattle.md_require.specs.Amounts.{amounts_of}
use Rattle.md_require.specs.Places.{AreIn, IsIn}
use Rattle.md_require.specs.Required.{GrowsRequired, IsOptimalRequired, IsRequired}
use Rattle.md_require.specs.RequireProgram.{amount_form, at_most_by, condition_forms, require_forms, IsRequireProgram}
use Rattle.md_require.specs.RequireQuestion.{require_question}
use Rattle.md_require.proofs.AmountLaws.{amount-same, amounts-placed}
use Rattle.md_require.proofs.OwnProgram.{is-own, own_program, ray-own}
use Rattle.md_require.proofs.PointLaws.{admits-required, meets-required}

-- ---- forms that see the same in two lists of numbers

abbrev SeesSame : (ℕ → ℤ) → (ℕ → ℤ) → Form → Type 0
SeesSame x y form = form.left x ≡ form.left y

left-same : (n : ℕ) (form : Form) (row : Row) (x y : ℕ → ℤ) → SeesSame x y form → IsRowOf n form row → left_of n row x ≡ left_of n row y
left-same n form row x y same h =
    *ℤ_cancel h.by (left_of n row x) (left_of n row y) (IsDivisorFor-positive (suc n) (number_of form) h.by h.divisor) (sym (h.left x) ∙ same ∙ h.left y)

lefts-same : (n : ℕ) (fs : List Form) (rows : List Row) (x y : ℕ → ℤ) → All (SeesSame x y) fs → AreRowsOf n fs rows
    → (r : ℕ) (d : Row) → r < length rows → left_of n (get_or rows r d) x ≡ left_of n (get_or rows r d) y
lefts-same n [] [] x y same are r d b = absurd (omega arith)
lefts-same n [] (row ∷ rows) x y same are r d b = absurd are
lefts-same n (f ∷ fs) [] x y same are r d b = absurd are
lefts-same n (f ∷ fs) (row ∷ rows) x y same are zero d b = left-same n f row x y (All-head (SeesSame x y) f fs same) are.0
lefts-same n (f ∷ fs) (row ∷ rows) x y same are (suc r) d b = lefts-same n fs rows x y (All-tail (SeesSame x y) f fs same) are.1 r d (omega arith)

module _ (s : GeneralSetting) (x y : ℕ → ℤ) (same : IsSameForm s x y) where
  own-same : All (SeesSame x y) (forms_of s (conditions_of s))
  own-same = All-map (SeesSame x y) (form_of s) (conditions_of s) (λ k d l. side-same s x y (get_or (conditions_of s) k d) same (conditions-placed s k d l))

  added-same : (cs : List Condition) → AreIn s cs → All (SeesSame x y) (flat_map (condition_forms s) cs)
  added-same [] placed = All-nil (SeesSame x y)
  added-same (c ∷ cs) placed =
      All-append (SeesSame x y) (condition_forms s c) (flat_map (condition_forms s) cs)
      (All-map (SeesSame x y) (amount_form s c) (amounts_of s c.measured)
      (λ k d l. ap (λ z. at_most_by c.side (c.den *ℤ z))
      (amount-same s x y (get_or (amounts_of s c.measured) k d) same (amounts-placed s c.measured (All-head (λ e. IsIn s e.measured) c cs placed) k d l))))
      (added-same cs (All-tail (λ e. IsIn s e.measured) c cs placed))

module _ (s : GeneralSetting) (conditions : List Condition) (placed : AreIn s conditions) (p : Program) (is : IsRequireProgram s conditions p) where
  factor-above : pos 0 <ℤ p.factor
  factor-above = IsDivisorFor-positive (column_count s) (cost_of s) p.factor is.has_cost.factor

  costs : (den : ℤ) (x : ℕ → ℤ) → p.factor *ℤ cost_sum p x ≡ worth_of s (mechanism_of s den x)
  costs den x = costs-mechanisms s (own_program s conditions p is) (is-own s conditions p is) den x

  costs-point : (m : Mechanism) → IsRequired s conditions m → p.factor *ℤ cost_sum p (number_at (point_of s m)) ≡ worth_of s m
  costs-point m h = costs-points s (own_program s conditions p is) (is-own s conditions p is) m h.admissible.mechanism

  nothing-added : (m c : ℤ) → pos 0 *ℤ m +ℤ c ≡ c
  nothing-added m c = (let none : pos 0 *ℤ m ≡ pos 0 = zero-*ℤ m in omega (arith, linear))

  -- ---- a greatest point

  pub optimal : (den : ℤ) (x : ℕ → ℤ) → IsOptimalPoint p den x → IsOptimalRequired s conditions (mechanism_of s den x)
  optimal den x greatest = record {
    required = admits-required s conditions placed p is den x greatest.meets;
    best = λ other h.
        best-affine p den x greatest (pos 0) p.factor (pos 1) (worth_of s (mechanism_of s den x)) factor-above (omega (arith, ints)) (sym (costs den x) ∙ sym (nothing-added den (p.factor *ℤ cost_sum p x)))
        other.den (number_at (point_of s other)) (worth_of s other)
        (record {
          meets = subst (λ d. Meets p d (number_at (point_of s other))) (sym (one-*ℤ other.den)) (meets-required s conditions placed p is other h);
          costs = one-*ℤ (worth_of s other) ∙ sym (costs-point other h) ∙ sym (nothing-added (pos 1 *ℤ other.den) (p.factor *ℤ cost_sum p (number_at (point_of s other))));
        });
  }

  -- the point of its mechanism is certified as it is
  pub certified-point : (den : ℤ) (x : ℕ → ℤ) (bound : Bound) → IsOptimalCertified p den x bound.den (number_at bound.main) (number_at bound.face)
      → Certified p (optimal_certificate (require_question s conditions) (mechanism_of s den x) bound)
  certified-point den x bound c =
      let m = mechanism_of s den x in
      let h = admits-required s conditions placed p is den x c.meets in
      let same : cost_sum p x ≡ cost_sum p (number_at (point_of s m)) = *ℤ_cancel p.factor (cost_sum p x) (cost_sum p (number_at (point_of s m))) factor-above (costs den x ∙ sym (costs-point m h)) in
      record {
        meets = meets-required s conditions placed p is m h;
        positive = c.positive;
        pairs = c.pairs;
        columns = c.columns;
        face_right = c.face_right;
        main_right = c.main_right ∙ ap (λ z. bound.den *ℤ z) same;
      }

  -- ---- no point

  pub none : HasNoPoint p → AdmitsNone (require_question s conditions)
  none empty m h = empty.none m.den (number_at (point_of s m)) (meets-required s conditions placed p is m h)

  -- ---- no end

  module _ (den : ℤ) (x ray : ℕ → ℤ) (c : IsUnboundedCertified p den x ray) where
    laws : IsProgramWithLaws s (own_program s conditions p is)
    laws = with_laws s (own_program s conditions p is) (is-own s conditions p is)

    certified : IsUnboundedCertified (own_program s conditions p is) den x ray
    certified = ray-own s conditions p is den x ray c

    no-chance : (r o : ℕ) → r < profile_count (sizes_of s) → o < outcome_count s → ray (r * outcome_count s + o) ≡ pos 0
    no-chance = no_chance s (own_program s conditions p is) den x ray laws certified

    claim : GrowsAlong p den x ray
    claim = unbounded-claim p den x ray c

    pub grown : GrowsRequired s conditions (mechanism_of s den x) (pays_along s ray)
    grown k = (
      subst (IsRequired s conditions) (mechanism-along s den x ray k no-chance) (admits-required s conditions placed p is den (along x k ray) (claim.meets k)),
      (grows s (own_program s conditions p is) den x ray laws certified k).1,
    )

    -- the ray of its payments is certified with the point of the mechanism
    sums-same : (r : ℕ) → r < row_count p → row_sum p (along_pays s ray) r ≡ row_sum p ray r
    sums-same r b =
        subst (λ n. left_of n (row_at p r) (along_pays s ray) ≡ left_of n (row_at p r) ray) (sym is.columns)
        (lefts-same (column_count s) (require_forms s conditions) p.rows (along_pays s ray) ray
        (All-append (SeesSame (along_pays s ray) ray) (forms_of s (conditions_of s)) (flat_map (condition_forms s) conditions)
        (own-same s (along_pays s ray) ray (same-ray s ray no-chance)) (added-same s (along_pays s ray) ray (same-ray s ray no-chance) conditions placed))
        is.rows r (record { kind = AtMost; terms = []; right = pos 0 }) b)

    pub certified-ray : Certified p (unbounded_certificate (require_question s conditions) (mechanism_of s den x) (pays_along s ray))
    certified-ray = record {
      meets = meets-required s conditions placed p is (mechanism_of s den x) (admits-required s conditions placed p is den x c.meets);
      nonneg = λ j l. ray-nonneg s (pays_along s ray) j;
      rows = record { holds = λ r b. subst (RayKeeps (kind_at p r)) (sym (sums-same r b)) (c.rows.holds r b) };
      gain = (unbounded-there s (own_program s conditions p is) (is-own s conditions p is) den x ray certified).gain;
    }
