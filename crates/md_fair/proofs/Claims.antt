-- What is so of a setting where an answer tells a certificate of its fair program.
use Rattle.std.proofs.Common.{◌≡◌, ◌↔◌, ℕ, zero, suc, ◌+◌, ◌*◌, ◌<◌, ℤ, pos, ◌+ℤ◌, ◌-ℤ◌, ◌*ℤ◌, ◌≤ℤ◌, ◌<ℤ◌, List, [], ◌∷◌, length, get_or, All, refl, sym, ap, ◌∙◌, subst, arith}
use lib.IntN.{*ℤ_comm}
use Rattle.std.proofs.lemmas.Int.{ints}
use Rattle.std.proofs.lemmas.List.{get_or_default}
use Rattle.std.proofs.lemmas.List.Elements.{All-append, All-cons, All-head, All-nil, All-tail}
use Rattle.md_math.specs.Lists.{number_at}
use Rattle.md_math.proofs.Builders.{All-left, All-list_to, All-right}
use Rattle.md_math.proofs.Order.{*ℤ-le, *ℤ_cancel, ≤ℤ_antisymm, positive-*ℤ, positive_from_*ℤ, le_from_*ℤ}
use Rattle.md_math.proofs.Ring.{linear, ring, one-*ℤ, *ℤ-one, *ℤ-zero, zero-*ℤ}
use Rattle.md_math.proofs.SumLaws.{dot-+ℤ, dot-*ℤ}
use Rattle.md_math.proofs.TotalLaws.{total_by-same}
use Rattle.md_setting.specs.Setting.{GeneralSetting}
use Rattle.md_setting.specs.Meaning.{agent_count, outcome_count, sizes_of, weight_of}
use Rattle.md_setting.specs.Rows.{column_count}
use Rattle.md_space.specs.Profiles.{profile_count}
use Rattle.md_space.specs.AllProfiles.{profiles_of}
use Rattle.md_space.proofs.InOrder.{All-profiles_of}
use Rattle.md_mech.specs.declared.mechanism.Mechanism.{Mechanism}
use Rattle.md_mech.specs.Admissible.{IsAdmissible}
use Rattle.md_mech.specs.Optimal.{IsInfeasible, raised}
use Rattle.md_mech.specs.Rows.{Condition, conditions_of}
use Rattle.md_lp.specs.declared.row_kind.RowKind.{RowKind}
use Rattle.md_lp.specs.declared.row_kind.RowKind.TheVariants.{AtMost, Exact}
use Rattle.md_lp.specs.Program.{Keeps, Program, Row, kind_at, left_of, row_at, value_of}
use Rattle.md_lp.specs.Point.{Meets, cost_sum}
use Rattle.md_lp.proofs.Dividing.{IsDivisorFor-positive, Keeps-times}
use Rattle.md_cert.specs.Certified.{Certified, IsOptimalCertified, IsUnboundedCertified}
use Rattle.md_cert.specs.Claims.{IsOptimalPoint, HasNoPoint, GrowsAlong, along}
use Rattle.md_cert.specs.Pairs.{RayKeeps}
use Rattle.md_cert.specs.declared.bound.Bound.{Bound}
use Rattle.md_cert.proofs.Duality.{optimal-claim, unbounded-claim}
use Rattle.md_forms.specs.Forms.{Form, unit, number_of}
use Rattle.md_forms.specs.ProgramOf.{IsRowOf, AreRowsOf}
use Rattle.md_forms.proofs.PointLaws.{all-one}
use Rattle.md_rows.specs.Points.{mechanism_of}
use Rattle.md_rows.specs.ProgramOf.{form_of, forms_of}
use Rattle.md_rows.specs.Sides.{utility_in}
use Rattle.md_rows.proofs.Law.{IsPlaced, conditions-placed}
use Rattle.md_rows.proofs.PointLaws.{agrees-mechanism_of}
use Rattle.md_claims.specs.Rays.{pays_along, ray_of}
use Rattle.md_cert.proofs.AffineLaws.{best-affine}
use Rattle.md_claims.proofs.RayLaws.{mechanism-along, ray-at_chance}
use Rattle.md_question.specs.Question.{optimal_certificate, unbounded_certificate}
use Rattle.md_question.proofs.PointCertificates.{along_pays, ray-nonneg, same-ray}
use Rattle.md_question.proofs.RayFits.{ray-length}
use Rattle.md_question.proofs.SameForms.{IsSameForm, side-same, utility-same}
use Rattle.md_fair.specs.Fairest.{GainsLeast, GrowsFair, IsOptimalFair}
use Rattle.md_fair.specs.FairPoints.{fair_point_of, fair_ray_of}
use Rattle.md_fair.specs.FairProgram.{agent_form, agent_forms, fair_forms, lag_in, level_in, mean_in, IsFairProgram}
use Rattle.md_fair.specs.FairQuestion.{fair_question}
use Rattle.md_fair.specs.Least.{IsLeast, least_of}
use Rattle.md_fair.specs.Mean.{mean_of}
use Rattle.md_fair.proofs.LeastLaws.{below-least, has-least, is-least}
use Rattle.md_fair.proofs.LevelLaws.{level-nonneg, level-there, own-below}
use Rattle.md_fair.proofs.PointLaws.{admitted, admits-fair, agent-at, level-meets, mean-agrees, point-level}
use Rattle.md_fair.proofs.SameNumbers.{same-form}

-- ---- rows of forms

-- a row of the form of which this holds
record HasRow (n : ℕ) (Q : Row → Type 0) (form : Form) : Type 0 where
  row : Row
  is : IsRowOf n form row
  holds : Q row

each-has_row : (n : ℕ) (Q : Row → Type 0) (fs : List Form) (rows : List Row) → AreRowsOf n fs rows → ((r : ℕ) (d : Row) → r < length rows → Q (get_or rows r d)) → All (HasRow n Q) fs
each-has_row n Q [] [] are h = All-nil (HasRow n Q)
each-has_row n Q [] (row ∷ rows) are h = absurd are
each-has_row n Q (f ∷ fs) [] are h = absurd are
each-has_row n Q (f ∷ fs) (row ∷ rows) are h =
    All-append (HasRow n Q) (f ∷ []) fs (all-one (HasRow n Q) f (record { row = row; is = are.0; holds = h 0 row (omega arith) }))
    (each-has_row n Q fs rows are.1 (λ r d b. h (suc r) d (omega arith)))

-- what a ray gives a form: at most 0, or exactly 0
abbrev FormKeeps : (ℕ → ℤ) → Form → Type 0
FormKeeps ray form = RayKeeps form.kind (form.left ray)

ray-keeps : (kind : RowKind) (z : ℤ) → Keeps kind z (pos 0) ↔ RayKeeps kind z
ray-keeps AtMost z = (λ h. h, λ h. h)
ray-keeps Exact z = (λ h. h, λ h. h)

-- a ray keeps a row exactly where it keeps the form
row-keeps : (n : ℕ) (form : Form) (row : Row) (ray : ℕ → ℤ) → IsRowOf n form row → RayKeeps row.kind (left_of n row ray) ↔ FormKeeps ray form
row-keeps n form row ray r =
    let above : pos 0 <ℤ r.by = IsDivisorFor-positive (suc n) (number_of form) r.by r.divisor in
    let both = subst (λ z. Keeps form.kind (r.by *ℤ left_of n row ray) z ↔ Keeps form.kind (left_of n row ray) (pos 0)) (*ℤ-zero r.by) (Keeps-times form.kind r.by (left_of n row ray) (pos 0) above) in
    let scaled = ray-keeps form.kind (r.by *ℤ left_of n row ray) in
    let plain = ray-keeps form.kind (left_of n row ray) in
    rw (r.kind, r.left ray) (λ h. scaled.0 (both.1 (plain.1 h)), λ h. plain.0 (both.0 (scaled.1 h)))

keeps-rows : (n : ℕ) (fs : List Form) (rows : List Row) (ray : ℕ → ℤ) → AreRowsOf n fs rows → All (FormKeeps ray) fs
    → (r : ℕ) (d : Row) → r < length rows → RayKeeps (get_or rows r d).kind (left_of n (get_or rows r d) ray)
keeps-rows n [] [] ray are h r d b = absurd (omega arith)
keeps-rows n [] (row ∷ rows) ray are h r d b = absurd are
keeps-rows n (f ∷ fs) [] ray are h r d b = absurd are
keeps-rows n (f ∷ fs) (row ∷ rows) ray are h zero d b = (row-keeps n f row ray are.0).1 (All-head (FormKeeps ray) f fs h)
keeps-rows n (f ∷ fs) (row ∷ rows) ray are h (suc r) d b = keeps-rows n fs rows ray are.1 (All-tail (FormKeeps ray) f fs h) r d (omega arith)

-- what a ray adds to a left side
left-along : (n : ℕ) (row : Row) (x ray : ℕ → ℤ) (k : ℕ) → left_of n row (along x k ray) ≡ left_of n row x +ℤ pos k *ℤ left_of n row ray
left-along n row x ray k =
    dot-+ℤ n (value_of row.terms) x (λ j. pos k *ℤ ray j) ∙ ap (λ z. left_of n row x +ℤ z) (dot-*ℤ n (pos k) (value_of row.terms) ray)

form-along : (n : ℕ) (form : Form) (row : Row) (x ray : ℕ → ℤ) (k : ℕ) → IsRowOf n form row → form.left (along x k ray) ≡ form.left x +ℤ pos k *ℤ form.left ray
form-along n form row x ray k r = r.left (along x k ray) ∙ ap (λ z. r.by *ℤ z) (left-along n row x ray k) ∙ parts r.by (left_of n row x) (pos k) (left_of n row ray) ∙ rw (r.left x, r.left ray) refl
  where
    parts : (b u c v : ℤ) → b *ℤ (u +ℤ c *ℤ v) ≡ b *ℤ u +ℤ c *ℤ (b *ℤ v)
    parts b u c v = simp ring

level-along : (s : GeneralSetting) (x ray : ℕ → ℤ) (k : ℕ) → level_in s (along x k ray) ≡ level_in s x +ℤ pos k *ℤ level_in s ray
level-along s x ray k = parts (x (column_count s)) (x (column_count s + 1)) (pos k) (ray (column_count s)) (ray (column_count s + 1))
  where
    parts : (a b c u v : ℤ) → (a +ℤ c *ℤ u) -ℤ (b +ℤ c *ℤ v) ≡ (a -ℤ b) +ℤ c *ℤ (u -ℤ v)
    parts a b c u v = simp ring (omega (arith, linear))

-- ---- the fair program of a setting

module _ (s : GeneralSetting) (p : Program) (is : IsFairProgram s p) (some : 0 < agent_count s) where
  factor-above : pos 0 <ℤ p.factor
  factor-above = IsDivisorFor-positive (column_count s + 2) (λ j. level_in s (unit j)) p.factor is.has_cost.factor

  nothing-added : (m c : ℤ) → pos 0 *ℤ m +ℤ c ≡ c
  nothing-added m c = (let none : pos 0 *ℤ m ≡ pos 0 = zero-*ℤ m in omega (arith, linear))

  -- ---- a greatest point

  module _ (den : ℤ) (x : ℕ → ℤ) (greatest : IsOptimalPoint p den x) where
    -- no admissible mechanism reaches a greater level
    no-greater : (other : Mechanism) (level : ℤ) → IsAdmissible s other → ((i : ℕ) → i < agent_count s → level ≤ℤ mean_of s other i) → (level *ℤ den) ≤ℤ (level_in s x *ℤ other.den)
    no-greater other level admissible reaches =
        best-affine p den x greatest (pos 0) p.factor (pos 1) (level_in s x) factor-above (omega (arith, ints)) (is.has_cost.cost_is x ∙ sym (nothing-added den (p.factor *ℤ cost_sum p x)))
        other.den (number_at (fair_point_of s other level)) level
        (record {
          meets = subst (λ d. Meets p d (number_at (fair_point_of s other level))) (sym (one-*ℤ other.den)) (level-meets s other level admissible.mechanism p is admissible reaches);
          costs = one-*ℤ level ∙ sym (point-level s other level admissible.mechanism) ∙ is.has_cost.cost_is (number_at (fair_point_of s other level))
              ∙ sym (nothing-added (pos 1 *ℤ other.den) (p.factor *ℤ cost_sum p (number_at (fair_point_of s other level))));
        })

    fair-mechanism : IsAdmissible s (mechanism_of s den x)
    fair-mechanism = admitted s p is den x greatest.meets

    -- so the level is the least
    level-least : (least : ℤ) → IsLeast s (mechanism_of s den x) least → level_in s x ≡ least
    level-least least h =
        ≤ℤ_antisymm (level_in s x) least
        (below-least s (mechanism_of s den x) (level_in s x) least (admits-fair s p is den x greatest.meets).1 h)
        (divided (no-greater (mechanism_of s den x) least fair-mechanism h.at_most))
      where
        divided : (least *ℤ den) ≤ℤ (level_in s x *ℤ den) → least ≤ℤ level_in s x
        divided l =
            le_from_*ℤ den least (level_in s x) greatest.meets.point.positive
            (subst (λ z. z ≤ℤ (den *ℤ level_in s x)) (*ℤ_comm least den) (subst (λ z. (least *ℤ den) ≤ℤ z) (*ℤ_comm (level_in s x) den) l))

    pub fairest : IsOptimalFair s (mechanism_of s den x)
    fairest =
        let h = has-least s (mechanism_of s den x) some in
        record {
          admissible = fair-mechanism;
          least = h.least;
          is_least = h.is;
          best = λ other theirs admissible is_theirs.
              subst (λ z. (theirs *ℤ den) ≤ℤ (z *ℤ other.den)) (level-least h.least h.is) (no-greater other theirs admissible is_theirs.at_most);
        }

  -- the point of its mechanism with the least as the level is certified as it is
  pub certified-fair : (den : ℤ) (x : ℕ → ℤ) (bound : Bound) → IsOptimalCertified p den x bound.den (number_at bound.main) (number_at bound.face)
      → Certified p (optimal_certificate (fair_question s) (mechanism_of s den x) bound)
  certified-fair den x bound c =
      let greatest = optimal-claim p den bound.den x (number_at bound.main) (number_at bound.face) c in
      let m = mechanism_of s den x in
      let least = is-least s m some in
      let admissible = fair-mechanism den x greatest in
      let there = number_at (fair_point_of s m (least_of s m)) in
      let same : cost_sum p x ≡ cost_sum p there =
      *ℤ_cancel p.factor (cost_sum p x) (cost_sum p there) factor-above
      (sym (is.has_cost.cost_is x) ∙ level-least den x greatest (least_of s m) least ∙ sym (point-level s m (least_of s m) admissible.mechanism) ∙ is.has_cost.cost_is there) in
      record {
        meets = level-meets s m (least_of s m) admissible.mechanism p is admissible least.at_most;
        positive = c.positive;
        pairs = c.pairs;
        columns = c.columns;
        face_right = c.face_right;
        main_right = c.main_right ∙ ap (λ z. bound.den *ℤ z) same;
      }

  -- ---- no point

  pub none-admissible : HasNoPoint p → IsInfeasible s
  none-admissible empty m admissible =
      let h = has-least s m some in
      empty.none m.den (number_at (fair_point_of s m h.least)) (level-meets s m h.least admissible.mechanism p is admissible h.is.at_most)

  -- ---- no end

  module _ (den : ℤ) (x ray : ℕ → ℤ) (c : IsUnboundedCertified p den x ray) where
    claim : GrowsAlong p den x ray
    claim = unbounded-claim p den x ray c

    along-admitted : (k : ℕ) → IsAdmissible s (mechanism_of s den (along x k ray))
    along-admitted k = admitted s p is den (along x k ray) (claim.meets k)

    no-chance : (r o : ℕ) → r < profile_count (sizes_of s) → o < outcome_count s → ray (r * outcome_count s + o) ≡ pos 0
    no-chance =
        ray-at_chance s den x ray (admitted s p is den x c.meets).mechanism (along-admitted 1).mechanism
        (λ j below. c.nonneg j (omega (arith, below, is.columns)))

    raised-there : (k : ℕ) → mechanism_of s den (along x k ray) ≡ raised (mechanism_of s den x) k (pays_along s ray)
    raised-there k = mechanism-along s den x ray k no-chance

    -- the ray raises the level
    level-rises : pos 1 ≤ℤ level_in s ray
    level-rises =
        let up : pos 0 <ℤ (p.factor *ℤ cost_sum p ray) = positive-*ℤ p.factor (cost_sum p ray) factor-above c.gain in
        let same = is.has_cost.cost_is ray in
        omega (arith, ints, subst (λ z. pos 0 <ℤ z) (sym same) up)

    abbrev keeps_row : Row → Type 0
    keeps_row row = RayKeeps row.kind (left_of (column_count s + 2) row ray)

    form-rows : All (HasRow (column_count s + 2) keeps_row) (fair_forms s)
    form-rows =
        each-has_row (column_count s + 2) keeps_row (fair_forms s) p.rows is.rows
        (λ r d b. subst (λ n. RayKeeps (get_or p.rows r d).kind (left_of n (get_or p.rows r d) ray)) is.columns
        (subst (λ row. RayKeeps row.kind (left_of p.columns row ray)) (get_or_default p.rows r (record { kind = AtMost; terms = []; right = pos 0 }) d b) (c.rows.holds r b)))

    form-keeps : (form : Form) → HasRow (column_count s + 2) keeps_row form → FormKeeps ray form
    form-keeps form h = (row-keeps (column_count s + 2) form h.row ray h.is).0 h.holds

    agent-row : (i : ℕ) → i < agent_count s → HasRow (column_count s + 2) keeps_row (agent_form s i)
    agent-row i l =
        agent-at (HasRow (column_count s + 2) keeps_row) s i l
        (All-right (HasRow (column_count s + 2) keeps_row) (forms_of s (conditions_of s)) (agent_forms s) form-rows)

    lag-falls : (i : ℕ) → i < agent_count s → lag_in s ray i ≤ℤ pos 0
    lag-falls i l = form-keeps (agent_form s i) (agent-row i l)

    mean-rises : (k i : ℕ) → i < agent_count s → (mean_in s x i +ℤ pos k) ≤ℤ mean_in s (along x k ray) i
    mean-rises k i l =
        let h = agent-row i l in
        let lags : lag_in s (along x k ray) i ≡ lag_in s x i +ℤ pos k *ℤ lag_in s ray i = form-along (column_count s + 2) (agent_form s i) h.row x ray k h.is in
        step (level_in s x) (level_in s ray) (level_in s (along x k ray)) (mean_in s x i) (mean_in s ray i) (mean_in s (along x k ray) i) k (level-along s x ray k) lags level-rises (lag-falls i l)
      where
        step : (a b d u v w : ℤ) (j : ℕ) → d ≡ a +ℤ pos j *ℤ b → d -ℤ w ≡ (a -ℤ u) +ℤ pos j *ℤ (b -ℤ v) → pos 1 ≤ℤ b → (b -ℤ v) ≤ℤ pos 0 → (u +ℤ pos j) ≤ℤ w
        step a b d u v w j e f up low =
            let split : pos j *ℤ (b -ℤ v) ≡ pos j *ℤ b -ℤ pos j *ℤ v = minus (pos j) b v in
            let one : pos 1 ≤ℤ v = omega (arith, ints, up, low) in
            let more : (pos j *ℤ pos 1) ≤ℤ (pos j *ℤ v) = *ℤ-le (pos j) (pos 1) v (omega (arith, ints)) one in
            let same : pos j *ℤ pos 1 ≡ pos j = *ℤ-one (pos j) in
            omega (arith, linear, e, f, split, more, same)
          where
            minus : (c y z : ℤ) → c *ℤ (y -ℤ z) ≡ c *ℤ y -ℤ c *ℤ z
            minus c y z = simp ring (omega (arith, linear))

    gains-there : (k : ℕ) → GainsLeast s (mechanism_of s den x) (mechanism_of s den (along x k ray)) k
    gains-there k =
        let m = mechanism_of s den x in
        let n = mechanism_of s den (along x k ray) in
        let before = has-least s m some in
        let after = has-least s n some in
        let i = after.is.agent in
        let l = after.is.inside in
        let here = mean-agrees s x m i (agrees-mechanism_of s den x) l in
        let there = mean-agrees s (along x k ray) n i (agrees-mechanism_of s den (along x k ray)) l in
        record {
          before = before.least;
          after = after.least;
          is_before = before.is;
          is_after = after.is;
          gains = chain before.least (mean_of s m i) (mean_of s n i) after.least k (before.is.at_most i l) (subst (λ z. (z +ℤ pos k) ≤ℤ mean_of s n i) here (subst (λ z. (mean_in s x i +ℤ pos k) ≤ℤ z) there (mean-rises k i l))) after.is.reached;
        }
      where
        chain : (a b c d : ℤ) (j : ℕ) → a ≤ℤ b → (b +ℤ pos j) ≤ℤ c → d ≡ c → (a +ℤ pos j) ≤ℤ d
        chain a b c d j f g e = omega (arith, ints, f, g, e)

    pub grows-fair : GrowsFair s (mechanism_of s den x) (pays_along s ray)
    grows-fair k = (
      subst (IsAdmissible s) (raised-there k) (along-admitted k),
      subst (λ n. GainsLeast s (mechanism_of s den x) n k) (raised-there k) (gains-there k),
    )

    -- the ray of its payments, which raises the level by 1, is certified with the point of the mechanism
    abbrev own_ray : ℕ → ℤ
    own_ray = number_at (fair_ray_of s (pays_along s ray))

    same-own : IsSameForm s own_ray ray
    same-own =
        let own = same-form s (along_pays s ray) own_ray (own-below s (ray_of s (pays_along s ray)) (pos 1) (ray-length s (pays_along s ray))) in
        let there = same-ray s ray no-chance in
        record { chance = λ t o q l. sym (own.chance t o q l) ∙ there.chance t o q l; pay = λ i t l q. sym (own.pay i t l q) ∙ there.pay i t l q }

    own-level : level_in s own_ray ≡ pos 1
    own-level = level-there s (ray_of s (pays_along s ray)) (pos 1) (ray-length s (pays_along s ray))

    own-mean : (i : ℕ) → i < agent_count s → mean_in s own_ray i ≡ mean_in s ray i
    own-mean i l =
        total_by-same (λ t. weight_of s t *ℤ utility_in s own_ray i t t) (λ t. weight_of s t *ℤ utility_in s ray i t t) (profiles_of (sizes_of s))
        (λ k d b. ap (λ z. weight_of s (get_or (profiles_of (sizes_of s)) k d) *ℤ z)
        (utility-same s own_ray ray i (get_or (profiles_of (sizes_of s)) k d) (get_or (profiles_of (sizes_of s)) k d) same-own l (All-profiles_of (sizes_of s) k d b)))

    own-lag : (i : ℕ) → i < agent_count s → lag_in s own_ray i ≤ℤ pos 0
    own-lag i l = rw (own-level, own-mean i l) (below (level_in s ray) (mean_in s ray i) level-rises (lag-falls i l))
      where
        below : (a b : ℤ) → pos 1 ≤ℤ a → (a -ℤ b) ≤ℤ pos 0 → (pos 1 -ℤ b) ≤ℤ pos 0
        below a b up low = omega (arith, ints, up, low)

    own-conditions : (cs : List Condition) → All (IsPlaced s) cs → All (HasRow (column_count s + 2) keeps_row) (forms_of s cs) → All (FormKeeps own_ray) (forms_of s cs)
    own-conditions [] placed h = All-nil (FormKeeps own_ray)
    own-conditions (k ∷ cs) placed h =
        let kept = form-keeps (form_of s k) (All-head (HasRow (column_count s + 2) keeps_row) (form_of s k) (forms_of s cs) h) in
        All-cons (FormKeeps own_ray) (form_of s k) (forms_of s cs)
        (subst (RayKeeps (form_of s k).kind) (sym (side-same s own_ray ray k same-own (All-head (IsPlaced s) k cs placed))) kept)
        (own-conditions cs (All-tail (IsPlaced s) k cs placed) (All-tail (HasRow (column_count s + 2) keeps_row) (form_of s k) (forms_of s cs) h))

    own-forms : All (FormKeeps own_ray) (fair_forms s)
    own-forms =
        All-append (FormKeeps own_ray) (forms_of s (conditions_of s)) (agent_forms s)
        (own-conditions (conditions_of s) (conditions-placed s) (All-left (HasRow (column_count s + 2) keeps_row) (forms_of s (conditions_of s)) (agent_forms s) form-rows))
        (All-list_to (FormKeeps own_ray) (agent_count s) (agent_form s) own-lag)

    pub certified-ray : Certified p (unbounded_certificate (fair_question s) (mechanism_of s den x) (pays_along s ray))
    certified-ray =
        let m = mechanism_of s den x in
        let admissible = admitted s p is den x c.meets in
        record {
          meets = level-meets s m (least_of s m) admissible.mechanism p is admissible (is-least s m some).at_most;
          nonneg = λ j l. level-nonneg s (ray_of s (pays_along s ray)) (pos 1) (ray-length s (pays_along s ray)) (λ k b. ray-nonneg s (pays_along s ray) k) j (omega (arith, l, is.columns));
          rows = record {
            holds = λ r b.
                subst (λ n. RayKeeps (kind_at p r) (left_of n (row_at p r) own_ray)) (sym is.columns)
                (keeps-rows (column_count s + 2) (fair_forms s) p.rows own_ray is.rows own-forms r (record { kind = AtMost; terms = []; right = pos 0 }) b);
          };
          gain = positive_from_*ℤ p.factor (cost_sum p own_ray) factor-above (rw (sym (is.has_cost.cost_is own_ray), own-level) (omega (arith, ints)));
        }
