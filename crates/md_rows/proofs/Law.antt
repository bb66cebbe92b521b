-- The points that meet a setting's program are its admissible mechanisms, and cost what these are worth.
use Rattle.std.proofs.Common.{◌≡◌, ℕ, ◌<◌, Bool, true, false, ℤ, pos, ◌-ℤ◌, ◌*ℤ◌, neg_ℤ, ◌≤ℤ◌, ◌<ℤ◌, ◌↔◌, List, [], ◌∷◌, ◌++◌, length, get_or, All, refl, sym, ap, ◌∙◌, subst, arith, inl, inr}
use Rattle.std.specs.Prelude.{slice_index, ◌==◌, if◌then◌else◌}
use lib.IntN.{*ℤ_comm}
use Rattle.std.proofs.lemmas.Int.{ints}
use Rattle.std.proofs.lemmas.Bool.{cases_Bool}
use Rattle.std.proofs.lemmas.List.{length-map, get_or-map}
use Rattle.std.proofs.lemmas.List.Elements.{All-append, All-nil, All-get_or, All-map}
use Rattle.md_math.specs.Lists.{number_at, list_to}
use Rattle.md_math.specs.Sums.{sum_to}
use Rattle.md_math.proofs.Builders.{length-list_to, length-up_to, All-up_to, All-right}
use Rattle.md_math.proofs.Ring.{linear, *ℤ-zero, *ℤ-one, *ℤ-neg_ℤ, neg_ℤ-*ℤ, *ℤ-+ℤ, *ℤ_assoc}
use Rattle.md_math.proofs.SumLaws.{sum_to-same}
use Rattle.md_math.proofs.TotalLaws.{total_by-same, total_by-sub, total_by-zero}
use Rattle.md_space.specs.Profiles.{IsProfile, profile_count, profile_at, rank_of, replaced}
use Rattle.md_space.specs.AllProfiles.{profiles_of}
use Rattle.md_space.proofs.InOrder.{All-profiles_of}
use Rattle.md_space.proofs.Ranks.{rank_of-below, replaced-IsProfile}
use Rattle.md_setting.specs.declared.kinds.Truth.{Truth}
use Rattle.md_setting.specs.declared.kinds.Truth.TheVariants.{Dominant, Bayes}
use Rattle.md_setting.specs.declared.kinds.Rational.{Rational}
use Rattle.md_setting.specs.declared.kinds.Rational.TheVariants.{None as Free, ExPost, Interim}
use Rattle.md_setting.specs.Setting.{GeneralSetting}
use Rattle.md_setting.specs.Meaning.{agent_count, outcome_count, sizes_of, utility_of, outside_of, weight_of, marginal_of, value_of}
use Rattle.md_setting.specs.Rows.{column_count}
use Rattle.md_mech.specs.declared.mechanism.Mechanism.{Mechanism}
use Rattle.md_mech.specs.Mechanism.{IsMechanism, chance_of, pay_of}
use Rattle.md_mech.specs.Utility.{expected_utility, weighted_given}
use Rattle.md_mech.specs.Admissible.{IsAdmissible}
use Rattle.md_mech.specs.Optimal.{objective_at, worth_of}
use Rattle.md_mech.specs.Rows.{Condition, dominant_row, bayes_row, ex_post_row, interim_row, deficit_row, profile_row, IsKept, by_report, by_profile, by_type, truth_rows, rational_rows, deficit_rows, demand_rows, conditions_of}
use Rattle.md_mech.proofs.RowLaws.{all-by_profile, all-one, one-all, all-by_report, by_profile-at, admissible-kept, kept-admissible}
use Rattle.md_lp.specs.declared.row_kind.RowKind.TheVariants.{AtMost, Exact}
use Rattle.md_lp.specs.Program.{Program}
use Rattle.md_lp.specs.Point.{IsPoint, Meets}
use Rattle.md_forms.specs.Forms.{Form, Holds as HoldsForm}
use Rattle.md_forms.proofs.PointLaws as forms
use Rattle.md_rows.specs.Columns.{chance_column, first_plus, payment_in}
use Rattle.md_rows.specs.Sides.{utility_in, gain_in, lack_in, left_side, kind_of, objective_in, cost_in}
use Rattle.md_rows.specs.ProgramOf.{form_of, forms_of, IsProgramOf}
use Rattle.md_rows.specs.Points.{mechanism_of, point_of}
use Rattle.md_rows.specs.Law.{AdmitsPoints, AdmitsMechanisms, CostsPoints, CostsMechanisms}
use Rattle.md_rows.proofs.FormLaws.{payment-off}
use Rattle.md_rows.proofs.PointLaws.{Agrees, agrees-mechanism_of, agrees-point_of, point-nonneg, point-length, place-below}

-- ---- places of conditions

-- the condition's agent, types and profile are there
abbrev pub IsPlaced : GeneralSetting → Condition → Type 0
IsPlaced s (dominant_row i t b) = (i < agent_count s) × IsProfile (sizes_of s) t × (b < slice_index (sizes_of s) i)
IsPlaced s (bayes_row i a b) = (i < agent_count s) × (a < slice_index (sizes_of s) i) × (b < slice_index (sizes_of s) i)
IsPlaced s (ex_post_row i t) = (i < agent_count s) × IsProfile (sizes_of s) t
IsPlaced s (interim_row i a) = (i < agent_count s) × (a < slice_index (sizes_of s) i)
IsPlaced s (deficit_row t) = IsProfile (sizes_of s) t
IsPlaced s (profile_row t) = IsProfile (sizes_of s) t

truth-placed : (kind : Truth) (s : GeneralSetting) → All (IsPlaced s) (truth_rows kind s)
truth-placed Dominant s =
    All-up_to (IsPlaced s) (agent_count s) (λ i. by_profile s (λ t. by_report (slice_index (sizes_of s) i) (slice_index t i) (dominant_row i t)))
    (λ i agent. all-by_profile s (IsPlaced s) (λ t. by_report (slice_index (sizes_of s) i) (slice_index t i) (dominant_row i t))
    (λ t profile. all-by_report (IsPlaced s) (slice_index (sizes_of s) i) (slice_index t i) (dominant_row i t) (λ b below. (agent, profile, below))))
truth-placed Bayes s =
    All-up_to (IsPlaced s) (agent_count s) (λ i. by_type s i (λ a. by_report (slice_index (sizes_of s) i) a (bayes_row i a)))
    (λ i agent. All-up_to (IsPlaced s) (slice_index (sizes_of s) i) (λ a. by_report (slice_index (sizes_of s) i) a (bayes_row i a))
    (λ a kind. all-by_report (IsPlaced s) (slice_index (sizes_of s) i) a (bayes_row i a) (λ b below. (agent, kind, below))))

rational-placed : (kind : Rational) (s : GeneralSetting) → All (IsPlaced s) (rational_rows kind s)
rational-placed Free s = All-nil (IsPlaced s)
rational-placed ExPost s =
    All-up_to (IsPlaced s) (agent_count s) (λ i. by_profile s (λ t. ex_post_row i t ∷ []))
    (λ i agent. all-by_profile s (IsPlaced s) (λ t. ex_post_row i t ∷ []) (λ t profile. all-one (IsPlaced s) (ex_post_row i t) (agent, profile)))
rational-placed Interim s =
    All-up_to (IsPlaced s) (agent_count s) (λ i. by_type s i (λ a. interim_row i a ∷ []))
    (λ i agent. All-up_to (IsPlaced s) (slice_index (sizes_of s) i) (λ a. interim_row i a ∷ []) (λ a kind. all-one (IsPlaced s) (interim_row i a) (agent, kind)))

deficit-placed : (on : Bool) (s : GeneralSetting) → All (IsPlaced s) (deficit_rows on s)
deficit-placed true s = all-by_profile s (IsPlaced s) (λ t. deficit_row t ∷ []) (λ t profile. all-one (IsPlaced s) (deficit_row t) profile)
deficit-placed false s = All-nil (IsPlaced s)

pub conditions-placed : (s : GeneralSetting) → All (IsPlaced s) (conditions_of s)
conditions-placed s =
    All-append (IsPlaced s) (truth_rows s.truth s ++ rational_rows s.rational s ++ deficit_rows s.no_deficit s) (by_profile s (λ t. profile_row t ∷ []))
    (All-append (IsPlaced s) (truth_rows s.truth s ++ rational_rows s.rational s) (deficit_rows s.no_deficit s)
    (All-append (IsPlaced s) (truth_rows s.truth s) (rational_rows s.rational s) (truth-placed s.truth s) (rational-placed s.rational s))
    (deficit-placed s.no_deficit s))
    (all-by_profile s (IsPlaced s) (λ t. profile_row t ∷ []) (λ t profile. all-one (IsPlaced s) (profile_row t) profile))

-- ---- rows of the program and conditions

-- the condition's row holds at numbers over a denominator
abbrev pub Holds : GeneralSetting → ℤ → (ℕ → ℤ) → Condition → Type 0
Holds s den x c = HoldsForm den x (form_of s c)

each-form : (P : Form → Type 0) (s : GeneralSetting) (cs : List Condition) → All P (forms_of s cs) → All (λ c. P (form_of s c)) cs
each-form P s cs h = λ k d l. subst P (get_or-map (form_of s) cs k d (form_of s d) l) (h k (form_of s d) (omega (arith, l, length-map cs (form_of s))))

meets-hold : (s : GeneralSetting) (p : Program) (den : ℤ) (x : ℕ → ℤ) → IsProgramOf s p → Meets p den x → All (Holds s den x) (conditions_of s)
meets-hold s p den x is meets = each-form (HoldsForm den x) s (conditions_of s) (forms.meets-hold (column_count s) (forms_of s (conditions_of s)) (cost_in s) p den x is meets)

hold-meets : (s : GeneralSetting) (p : Program) (den : ℤ) (x : ℕ → ℤ) → IsProgramOf s p → IsPoint p den x → All (Holds s den x) (conditions_of s) → Meets p den x
hold-meets s p den x is point h = forms.hold-meets (column_count s) (forms_of s (conditions_of s)) (cost_in s) p den x is point (All-map (HoldsForm den x) (form_of s) (conditions_of s) h)

-- ---- the sides of conditions

side-utility : (s : GeneralSetting) (x : ℕ → ℤ) (m : Mechanism) (i : ℕ) (t r : List ℕ) → Agrees s x m → i < agent_count s → IsProfile (sizes_of s) r
    → utility_in s x i t r ≡ expected_utility s m i t r
side-utility s x m i t r a agent p =
    let sums : sum_to (outcome_count s) (λ o. utility_of s i t o *ℤ x (chance_column s r o)) ≡ sum_to (outcome_count s) (λ o. chance_of s m r o *ℤ utility_of s i t o) =
    sum_to-same (outcome_count s) (λ o. utility_of s i t o *ℤ x (chance_column s r o)) (λ o. chance_of s m r o *ℤ utility_of s i t o)
    (λ o l. *ℤ_comm (utility_of s i t o) (x (chance_column s r o)) ∙ ap (λ z. z *ℤ utility_of s i t o) (a.chance r o p l)) in
    rw (sums, a.pay i r agent p) refl

agents-length : (s : GeneralSetting) → length (sizes_of s) ≡ agent_count s
agents-length s = length-map s.agents (λ agent. length agent.types)

side-gain : (s : GeneralSetting) (x : ℕ → ℤ) (m : Mechanism) (i b : ℕ) (t : List ℕ) → Agrees s x m → i < agent_count s → b < slice_index (sizes_of s) i → IsProfile (sizes_of s) t
    → gain_in s x i b t ≡ expected_utility s m i t (replaced t i b) -ℤ expected_utility s m i t t
side-gain s x m i b t a agent below p =
    rw (side-utility s x m i t (replaced t i b) a agent (replaced-IsProfile (sizes_of s) t i b p below), side-utility s x m i t t a agent p) refl

side-lack : (s : GeneralSetting) (x : ℕ → ℤ) (m : Mechanism) (i : ℕ) (t : List ℕ) → Agrees s x m → i < agent_count s → IsProfile (sizes_of s) t
    → lack_in s x i t ≡ neg_ℤ (expected_utility s m i t t)
side-lack s x m i t a agent p = ap neg_ℤ (side-utility s x m i t t a agent p)

-- an average of a difference, and of what is taken away
given-sub : (s : GeneralSetting) (i a : ℕ) (f g h : List ℕ → ℤ) → ((t : List ℕ) → IsProfile (sizes_of s) t → f t ≡ g t -ℤ h t)
    → weighted_given s i a f ≡ weighted_given s i a g -ℤ weighted_given s i a h
given-sub s i a f g h e =
    total_by-same (λ t. if slice_index t i == a then weight_of s t *ℤ f t else pos 0)
    (λ t. (if slice_index t i == a then weight_of s t *ℤ g t else pos 0) -ℤ (if slice_index t i == a then weight_of s t *ℤ h t else pos 0)) (profiles_of (sizes_of s))
    (λ k d l. at (get_or (profiles_of (sizes_of s)) k d) (All-profiles_of (sizes_of s) k d l))
    ∙ total_by-sub (λ t. if slice_index t i == a then weight_of s t *ℤ g t else pos 0) (λ t. if slice_index t i == a then weight_of s t *ℤ h t else pos 0) (profiles_of (sizes_of s))
  where
    at : (t : List ℕ) → IsProfile (sizes_of s) t → (if slice_index t i == a then weight_of s t *ℤ f t else pos 0)
        ≡ (if slice_index t i == a then weight_of s t *ℤ g t else pos 0) -ℤ (if slice_index t i == a then weight_of s t *ℤ h t else pos 0)
    at t p = elim (cases_Bool (slice_index t i == a)) [
      | inl here ↦ rw (here, e t p) (omega (arith, linear, *ℤ-+ℤ (weight_of s t) (g t) (neg_ℤ (h t)), *ℤ-neg_ℤ (weight_of s t) (h t)))
      | inr away ↦ rw away (omega (arith, linear))
    ]

given-zero : (s : GeneralSetting) (i a : ℕ) → weighted_given s i a (λ t. pos 0) ≡ pos 0
given-zero s i a =
    total_by-zero (λ t. if slice_index t i == a then weight_of s t *ℤ pos 0 else pos 0) (profiles_of (sizes_of s)) (λ k d l. at (get_or (profiles_of (sizes_of s)) k d))
  where
    at : (t : List ℕ) → (if slice_index t i == a then weight_of s t *ℤ pos 0 else pos 0) ≡ pos 0
    at t = elim (cases_Bool (slice_index t i == a)) [ inl here ↦ rw here (*ℤ-zero (weight_of s t)) | inr away ↦ rw away refl ]

-- a row that says at most, as a condition says it
at_most : (den left told true_side : ℤ) → left ≡ told -ℤ true_side → (left ≤ℤ (den *ℤ pos 0)) ↔ (told ≤ℤ true_side)
at_most den left told true_side e = (λ h. omega (arith, ints, e, *ℤ-zero den), λ h. omega (arith, ints, e, *ℤ-zero den))

at_most_lack : (left right side outside : ℤ) → left ≡ neg_ℤ side → right ≡ neg_ℤ outside → (left ≤ℤ right) ↔ (outside ≤ℤ side)
at_most_lack left right side outside e f = (λ h. omega (arith, ints, e, f), λ h. omega (arith, ints, e, f))

-- what a demand's row says is what the condition says
demand-kept : (s : GeneralSetting) (den : ℤ) (x : ℕ → ℤ) (m : Mechanism) (c : Condition) → m.den ≡ den → Agrees s x m → IsPlaced s c → kind_of c ≡ AtMost → Holds s den x c ↔ IsKept s m c
demand-kept s den x m (dominant_row i t b) e a p k =
    at_most den (gain_in s x i b t) (expected_utility s m i t (replaced t i b)) (expected_utility s m i t t) (side-gain s x m i b t a p.0 p.2 p.1)
demand-kept s den x m (bayes_row i k' b) e a p k =
    at_most den (weighted_given s i k' (gain_in s x i b)) (weighted_given s i k' (λ t. expected_utility s m i t (replaced t i b))) (weighted_given s i k' (λ t. expected_utility s m i t t))
    (given-sub s i k' (gain_in s x i b) (λ t. expected_utility s m i t (replaced t i b)) (λ t. expected_utility s m i t t) (λ t q. side-gain s x m i b t a p.0 p.2 q))
demand-kept s den x m (ex_post_row i t) e a p k =
    at_most_lack (lack_in s x i t) (den *ℤ neg_ℤ (outside_of s i (slice_index t i))) (expected_utility s m i t t) (m.den *ℤ outside_of s i (slice_index t i))
    (side-lack s x m i t a p.0 p.1) (*ℤ-neg_ℤ den (outside_of s i (slice_index t i)) ∙ ap (λ z. neg_ℤ (z *ℤ outside_of s i (slice_index t i))) (sym e))
demand-kept s den x m (interim_row i k') e a p k =
    at_most_lack (weighted_given s i k' (lack_in s x i)) (den *ℤ (neg_ℤ (outside_of s i k') *ℤ marginal_of s i k')) (weighted_given s i k' (λ t. expected_utility s m i t t)) ((m.den *ℤ outside_of s i k') *ℤ marginal_of s i k')
    (given-sub s i k' (lack_in s x i) (λ t. pos 0) (λ t. expected_utility s m i t t) (λ t q. side-lack s x m i t a p.0 q ∙ omega (arith, linear))
    ∙ rw (given-zero s i k') (omega (arith, linear)))
    (ap (λ z. den *ℤ z) (neg_ℤ-*ℤ (outside_of s i k') (marginal_of s i k')) ∙ *ℤ-neg_ℤ den (outside_of s i k' *ℤ marginal_of s i k')
    ∙ ap neg_ℤ (sym (*ℤ_assoc den (outside_of s i k') (marginal_of s i k'))) ∙ ap (λ z. neg_ℤ ((z *ℤ outside_of s i k') *ℤ marginal_of s i k')) (sym e))
demand-kept s den x m (deficit_row t) e a p k =
    at_most den (neg_ℤ (sum_to (agent_count s) (λ i. payment_in s x i t))) (pos 0) (sum_to (agent_count s) (λ i. pay_of s m i t))
    (ap neg_ℤ (sum_to-same (agent_count s) (λ i. payment_in s x i t) (λ i. pay_of s m i t) (λ i l. a.pay i t l p)) ∙ omega (arith, linear))
demand-kept s den x m (profile_row t) e a p k = absurd (exact-not_at_most k)
  where
    exact-not_at_most : Exact ≡ AtMost → ⊥
    exact-not_at_most f = cc

profile-sum : (s : GeneralSetting) (x : ℕ → ℤ) (m : Mechanism) (t : List ℕ) → Agrees s x m → IsProfile (sizes_of s) t → left_side s (profile_row t) x ≡ sum_to (outcome_count s) (chance_of s m t)
profile-sum s x m t a p = sum_to-same (outcome_count s) (λ o. x (chance_column s t o)) (chance_of s m t) (λ o l. a.chance t o p l)

-- ---- all conditions

held-kept : (s : GeneralSetting) (den : ℤ) (x : ℕ → ℤ) (m : Mechanism) → m.den ≡ den → Agrees s x m → (c : Condition) → IsPlaced s c → Holds s den x c → IsKept s m c
held-kept s den x m e a (dominant_row i t b) p h = (demand-kept s den x m (dominant_row i t b) e a p refl).0 h
held-kept s den x m e a (bayes_row i k b) p h = (demand-kept s den x m (bayes_row i k b) e a p refl).0 h
held-kept s den x m e a (ex_post_row i t) p h = (demand-kept s den x m (ex_post_row i t) e a p refl).0 h
held-kept s den x m e a (interim_row i k) p h = (demand-kept s den x m (interim_row i k) e a p refl).0 h
held-kept s den x m e a (deficit_row t) p h = (demand-kept s den x m (deficit_row t) e a p refl).0 h
held-kept s den x m e a (profile_row t) p h = omega (arith, ints, h, profile-sum s x m t a p, *ℤ-one den, e)

kept-held : (s : GeneralSetting) (den : ℤ) (x : ℕ → ℤ) (m : Mechanism) → m.den ≡ den → Agrees s x m → IsMechanism s m → (c : Condition) → IsPlaced s c → IsKept s m c → Holds s den x c
kept-held s den x m e a w (dominant_row i t b) p h = (demand-kept s den x m (dominant_row i t b) e a p refl).1 h
kept-held s den x m e a w (bayes_row i k b) p h = (demand-kept s den x m (bayes_row i k b) e a p refl).1 h
kept-held s den x m e a w (ex_post_row i t) p h = (demand-kept s den x m (ex_post_row i t) e a p refl).1 h
kept-held s den x m e a w (interim_row i k) p h = (demand-kept s den x m (interim_row i k) e a p refl).1 h
kept-held s den x m e a w (deficit_row t) p h = (demand-kept s den x m (deficit_row t) e a p refl).1 h
kept-held s den x m e a w (profile_row t) p h = profile-sum s x m t a p ∙ w.whole t p ∙ e ∙ sym (*ℤ-one den)

-- ---- the law

-- numbers that hold at each row and are not negative say a mechanism
held-mechanism : (s : GeneralSetting) (p : Program) (den : ℤ) (x : ℕ → ℤ) → IsProgramOf s p → Meets p den x → IsMechanism s (mechanism_of s den x)
held-mechanism s p den x is meets =
    let a : Agrees s x (mechanism_of s den x) = agrees-mechanism_of s den x in
    let all = All-right (Holds s den x) (demand_rows s) (by_profile s (λ t. profile_row t ∷ [])) (meets-hold s p den x is meets) in
    record {
      den = (let above : pos 0 <ℤ den = meets.point.positive in omega (arith, ints));
      chance_count = length-list_to (first_plus s) x;
      pay_count = length-up_to (profile_count (sizes_of s)) (agent_count s) (λ r. list_to (agent_count s) (λ i. payment_in s x i (profile_at (sizes_of s) r)))
          (λ r h. length-list_to (agent_count s) (λ i. payment_in s x i (profile_at (sizes_of s) r)));
      not_negative = λ t o q l.
          let inside : chance_column s t o < first_plus s = place-below (rank_of (sizes_of s) t) (profile_count (sizes_of s)) (outcome_count s) o (rank_of-below (sizes_of s) t q) l in
          subst (λ z. pos 0 ≤ℤ z) (a.chance t o q l) (meets.point.nonneg (chance_column s t o) (omega (arith, inside, is.columns)));
      whole = λ t q.
          sym (profile-sum s x (mechanism_of s den x) t a q)
          ∙ one-all (Holds s den x) (profile_row t) (by_profile-at s (Holds s den x) (λ u. profile_row u ∷ []) t q all)
          ∙ *ℤ-one den;
      no_payment = λ off t i q l. sym (a.pay i t l q) ∙ payment-off s x i t off;
    }

pub admits-mechanisms : (s : GeneralSetting) (p : Program) → IsProgramOf s p → AdmitsMechanisms s p
admits-mechanisms s p is den x meets =
    let m = mechanism_of s den x in
    let held = meets-hold s p den x is meets in
    kept-admissible s m (held-mechanism s p den x is meets)
    (λ k d l. held-kept s den x m refl (agrees-mechanism_of s den x) (get_or (conditions_of s) k d) (conditions-placed s k d l) (held k d l))

pub admits-points : (s : GeneralSetting) (p : Program) → IsProgramOf s p → AdmitsPoints s p
admits-points s p is m h = (to, back)
  where
    x : ℕ → ℤ
    x = number_at (point_of s m)

    to : Meets p m.den x → IsAdmissible s m
    to meets =
        let held = meets-hold s p m.den x is meets in
        kept-admissible s m h (λ k d l. held-kept s m.den x m refl (agrees-point_of s m h) (get_or (conditions_of s) k d) (conditions-placed s k d l) (held k d l))

    back : IsAdmissible s m → Meets p m.den x
    back admissible =
        let kept = admissible-kept s m admissible in
        hold-meets s p m.den x is
        (record {
          positive = (let one : pos 1 ≤ℤ m.den = h.den in omega (arith, ints));
          nonneg = λ j l. All-get_or (λ z. pos 0 ≤ℤ z) (point_of s m) j (pos 0) (omega (arith, l, is.columns, point-length s m h)) (point-nonneg s m h);
        })
        (λ k d l. kept-held s m.den x m refl (agrees-point_of s m h) h (get_or (conditions_of s) k d) (conditions-placed s k d l) (kept k d l))

-- ---- what points cost

cost-worth : (s : GeneralSetting) (x : ℕ → ℤ) (m : Mechanism) → Agrees s x m → cost_in s x ≡ worth_of s m
cost-worth s x m a =
    total_by-same (λ t. weight_of s t *ℤ objective_in s x t) (λ t. weight_of s t *ℤ objective_at s m t) (profiles_of (sizes_of s))
    (λ k d l. ap (λ z. weight_of s (get_or (profiles_of (sizes_of s)) k d) *ℤ z) (at (get_or (profiles_of (sizes_of s)) k d) (All-profiles_of (sizes_of s) k d l)))
  where
    at : (t : List ℕ) → IsProfile (sizes_of s) t → objective_in s x t ≡ objective_at s m t
    at t p =
        let values : sum_to (outcome_count s) (λ o. value_of s t o *ℤ x (chance_column s t o)) ≡ sum_to (outcome_count s) (λ o. chance_of s m t o *ℤ value_of s t o) =
        sum_to-same (outcome_count s) (λ o. value_of s t o *ℤ x (chance_column s t o)) (λ o. chance_of s m t o *ℤ value_of s t o)
        (λ o l. *ℤ_comm (value_of s t o) (x (chance_column s t o)) ∙ ap (λ z. z *ℤ value_of s t o) (a.chance t o p l)) in
        let pays : sum_to (agent_count s) (λ i. payment_in s x i t) ≡ sum_to (agent_count s) (λ i. pay_of s m i t) =
        sum_to-same (agent_count s) (λ i. payment_in s x i t) (λ i. pay_of s m i t) (λ i l. a.pay i t l p) in
        rw (values, pays) refl

pub costs-points : (s : GeneralSetting) (p : Program) → IsProgramOf s p → CostsPoints s p
costs-points s p is m h = sym (is.has_cost.cost_is (number_at (point_of s m))) ∙ cost-worth s (number_at (point_of s m)) m (agrees-point_of s m h)

pub costs-mechanisms : (s : GeneralSetting) (p : Program) → IsProgramOf s p → CostsMechanisms s p
costs-mechanisms s p is den x = sym (is.has_cost.cost_is x) ∙ cost-worth s x (mechanism_of s den x) (agrees-mechanism_of s den x)
