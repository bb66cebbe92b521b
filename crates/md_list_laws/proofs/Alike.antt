-- Two settings that differ only in the weights of profiles, which are multiples of each other: they admit the same mechanisms, and these
-- bring the same on average.
use Rattle.std.proofs.Common.{◌≡◌, ℕ, ◌+◌, ◌*◌, ◌<◌, ℤ, pos, ◌+ℤ◌, ◌-ℤ◌, ◌*ℤ◌, ◌≤ℤ◌, ◌<ℤ◌, Bool, true, false, List, length, refl, sym, ap, ap₂, ◌∙◌, subst, arith}
use Rattle.std.specs.Prelude.{slice_index}
use Rattle.md_math.specs.Lists.{number_at}
use Rattle.md_math.specs.Sums.{sum_to, total_by}
use Rattle.md_math.proofs.Order.{*ℤ-le, le_from_*ℤ, le_from_lt, *ℤ_cancel}
use Rattle.md_math.proofs.Ring.{linear, ring, zero-*ℤ, *ℤ-zero, *ℤ_assoc}
use Rattle.md_math.proofs.SumLaws.{sum_to-same}
use Rattle.md_math.proofs.TotalLaws.{total_by-*ℤ}
use Rattle.md_space.specs.AllProfiles.{profiles_of}
use Rattle.md_space.specs.ByType.{where_type}
use Rattle.md_space.specs.Profiles.{IsProfile, profile_count, rank_of, replaced}
use Rattle.md_space.proofs.TypeSums.{total-same, total_given-same, total_given-*ℤ}
use Rattle.md_setting.specs.declared.kinds.Truth.{Truth as TruthKind}
use Rattle.md_setting.specs.declared.kinds.Truth.TheVariants.{Bayes}
use Rattle.md_setting.specs.declared.kinds.Rational.{Rational as RationalKind}
use Rattle.md_setting.specs.declared.kinds.Rational.TheVariants.{Interim}
use Rattle.md_setting.specs.Setting.{GeneralSetting}
use Rattle.md_setting.specs.Meaning.{agent_count, outcome_count, sizes_of, weight_of, total_of, outside_of, marginal_of, utility_of, value_of, welfare_of}
use Rattle.md_mech.specs.declared.mechanism.Mechanism.{Mechanism}
use Rattle.md_mech.specs.Admissible.{IsAdmissible}
use Rattle.md_mech.specs.Mechanism.{chance_of, pay_of, IsMechanism}
use Rattle.md_mech.specs.Optimal.{objective_at, worth_of}
use Rattle.md_mech.specs.Rationality.{IsInterimRational, IsRationalBy}
use Rattle.md_mech.specs.Truth.{IsBayesTruth, IsTruthfulBy}
use Rattle.md_mech.specs.Utility.{expected_utility, weighted_given}
use Rattle.md_list.specs.Averages.{revenue_in}
use Rattle.md_list.specs.Best.{welfare_in}

-- bidders are truthful and take part on average, with nothing outside, and pay
pub record IsSale (s : GeneralSetting) : Type 0 where
  pub truth : s.truth ≡ Bayes
  pub rational : s.rational ≡ Interim
  pub payments : s.payments ≡ true
  pub no_deficit : s.no_deficit ≡ false
  pub outside : (i v : ℕ) → i < agent_count s → outside_of s i v ≡ pos 0

-- x times the weight of each profile in one setting is y times that in the other one, and all else that mechanisms meet is the same
pub record AreAlike (s r : GeneralSetting) (x y : ℤ) : Type 0 where
  pub first : IsSale s
  pub second : IsSale r
  pub left_positive : pos 0 <ℤ x
  pub right_positive : pos 0 <ℤ y
  pub sizes : sizes_of r ≡ sizes_of s
  pub outcomes : outcome_count r ≡ outcome_count s
  pub agents : agent_count r ≡ agent_count s
  pub weights : (t : List ℕ) → IsProfile (sizes_of s) t → x *ℤ weight_of s t ≡ y *ℤ weight_of r t
  pub utility : (i : ℕ) (t : List ℕ) (o : ℕ) → i < agent_count s → IsProfile (sizes_of s) t → o < outcome_count s → utility_of r i t o ≡ utility_of s i t o
  pub value : (t : List ℕ) (o : ℕ) → IsProfile (sizes_of s) t → o < outcome_count s → value_of r t o ≡ value_of s t o
  pub revenue : r.revenue ≡ s.revenue

pub alike-sym : (s r : GeneralSetting) (x y : ℤ) → AreAlike s r x y → AreAlike r s y x
alike-sym s r x y alike = record {
  first = alike.second;
  second = alike.first;
  left_positive = alike.right_positive;
  right_positive = alike.left_positive;
  sizes = sym alike.sizes;
  outcomes = sym alike.outcomes;
  agents = sym alike.agents;
  weights = λ t p. sym (alike.weights t (profile t p));
  utility = λ i t o b p c. sym (alike.utility i t o (subst (λ n. i < n) alike.agents b) (profile t p) (subst (λ n. o < n) alike.outcomes c));
  value = λ t o p c. sym (alike.value t o (profile t p) (subst (λ n. o < n) alike.outcomes c));
  revenue = sym alike.revenue;
}
  where
    profile : (t : List ℕ) → IsProfile (sizes_of r) t → IsProfile (sizes_of s) t
    profile t p = subst (λ sizes. IsProfile sizes t) alike.sizes p

module _ (s r : GeneralSetting) (x y : ℤ) (alike : AreAlike s r x y) (m : Mechanism) where
  chance-same : (t : List ℕ) (o : ℕ) → chance_of r m t o ≡ chance_of s m t o
  chance-same t o = ap₂ (λ sizes n. number_at m.chances (rank_of sizes t * n + o)) alike.sizes alike.outcomes

  pay-same : (i : ℕ) (t : List ℕ) → pay_of r m i t ≡ pay_of s m i t
  pay-same i t = ap₂ (λ sizes n. number_at m.pays (rank_of sizes t * n + i)) alike.sizes alike.agents

  -- ---- sums over profiles

  sum-alike : (f g : List ℕ → ℤ) → ((t : List ℕ) → IsProfile (sizes_of s) t → g t ≡ f t)
      → x *ℤ total_by (λ t. weight_of s t *ℤ f t) (profiles_of (sizes_of s)) ≡ y *ℤ total_by (λ t. weight_of r t *ℤ g t) (profiles_of (sizes_of r))
  sum-alike f g same =
      sym (total_by-*ℤ x (λ t. weight_of s t *ℤ f t) (profiles_of (sizes_of s)))
      ∙ total-same (sizes_of s) _ (λ t. y *ℤ (weight_of r t *ℤ g t))
      (λ t p. sym (*ℤ_assoc x (weight_of s t) (f t)) ∙ ap₂ (λ w z. w *ℤ z) (alike.weights t p) (sym (same t p)) ∙ *ℤ_assoc y (weight_of r t) (g t))
      ∙ total_by-*ℤ y (λ t. weight_of r t *ℤ g t) (profiles_of (sizes_of s))
      ∙ ap (λ sizes. y *ℤ total_by (λ t. weight_of r t *ℤ g t) (profiles_of sizes)) (sym alike.sizes)

  given-alike : (i v : ℕ) (f g : List ℕ → ℤ) → ((t : List ℕ) → IsProfile (sizes_of s) t → g t ≡ f t) → x *ℤ weighted_given s i v f ≡ y *ℤ weighted_given r i v g
  given-alike i v f g same =
      sym (total_given-*ℤ (sizes_of s) i v x (λ t. weight_of s t *ℤ f t))
      ∙ total_given-same (sizes_of s) i v _ (λ t. y *ℤ (weight_of r t *ℤ g t))
      (λ t p e. sym (*ℤ_assoc x (weight_of s t) (f t)) ∙ ap₂ (λ w z. w *ℤ z) (alike.weights t p) (sym (same t p)) ∙ *ℤ_assoc y (weight_of r t) (g t))
      ∙ total_given-*ℤ (sizes_of s) i v y (λ t. weight_of r t *ℤ g t)
      ∙ ap (λ sizes. y *ℤ total_by (where_type i v (λ t. weight_of r t *ℤ g t)) (profiles_of sizes)) (sym alike.sizes)

  outcome-sum : (f g : ℕ → ℤ) (t : List ℕ) → ((o : ℕ) → o < outcome_count s → g o ≡ f o)
      → sum_to (outcome_count r) (λ o. chance_of r m t o *ℤ g o) ≡ sum_to (outcome_count s) (λ o. chance_of s m t o *ℤ f o)
  outcome-sum f g t same =
      ap (λ n. sum_to n (λ o. chance_of r m t o *ℤ g o)) alike.outcomes ∙ sum_to-same (outcome_count s) _ _ (λ o b. ap₂ (λ c z. c *ℤ z) (chance-same t o) (same o b))

  -- ---- what mechanisms bring

  utility-same : (i : ℕ) (t told : List ℕ) → i < agent_count s → IsProfile (sizes_of s) t → expected_utility r m i t told ≡ expected_utility s m i t told
  utility-same i t told b p = ap₂ (λ z c. z -ℤ c) (outcome-sum (λ o. utility_of s i t o) (λ o. utility_of r i t o) told (λ o c. alike.utility i t o b p c)) (pay-same i told)

  pays-same : (t : List ℕ) → sum_to (agent_count r) (λ i. pay_of r m i t) ≡ sum_to (agent_count s) (λ i. pay_of s m i t)
  pays-same t = ap (λ n. sum_to n (λ i. pay_of r m i t)) alike.agents ∙ sum_to-same (agent_count s) _ _ (λ i b. pay-same i t)

  welfare-same : (t : List ℕ) (o : ℕ) → IsProfile (sizes_of s) t → o < outcome_count s → welfare_of r t o ≡ welfare_of s t o
  welfare-same t o p c = ap (λ n. sum_to n (λ i. utility_of r i t o)) alike.agents ∙ sum_to-same (agent_count s) _ _ (λ i b. alike.utility i t o b p c)

  pub worth-alike : x *ℤ worth_of s m ≡ y *ℤ worth_of r m
  worth-alike =
      sum-alike (objective_at s m) (objective_at r m)
      (λ t p. ap₂ (λ z w. z +ℤ w) (outcome-sum (λ o. value_of s t o) (λ o. value_of r t o) t (λ o c. alike.value t o p c)) (ap₂ (λ z w. z *ℤ w) alike.revenue (pays-same t)))

  pub welfare-alike : x *ℤ welfare_in s m ≡ y *ℤ welfare_in r m
  welfare-alike = sum-alike _ _ (λ t p. outcome-sum (λ o. welfare_of s t o) (λ o. welfare_of r t o) t (λ o c. welfare-same t o p c))

  pub revenue-alike : x *ℤ revenue_in s m ≡ y *ℤ revenue_in r m
  revenue-alike = sum-alike _ _ (λ t p. pays-same t)

  -- ---- which mechanisms are admitted

  -- what does not fall by one setting does not by the other
  le-alike : (i v : ℕ) (f g f' g' : List ℕ → ℤ) → ((t : List ℕ) → IsProfile (sizes_of s) t → f' t ≡ f t) → ((t : List ℕ) → IsProfile (sizes_of s) t → g' t ≡ g t)
      → weighted_given s i v f ≤ℤ weighted_given s i v g → weighted_given r i v f' ≤ℤ weighted_given r i v g'
  le-alike i v f g f' g' e d l =
      le_from_*ℤ y _ _ alike.right_positive
      (subst (λ z. z ≤ℤ (y *ℤ weighted_given r i v g')) (given-alike i v f f' e)
      (subst (λ z. (x *ℤ weighted_given s i v f) ≤ℤ z) (given-alike i v g g' d) (*ℤ-le x _ _ (le_from_lt (pos 0) x alike.left_positive) l)))

  back : (t : List ℕ) → IsProfile (sizes_of r) t → IsProfile (sizes_of s) t
  back t p = subst (λ sizes. IsProfile sizes t) alike.sizes p

  agent-back : (i : ℕ) → i < agent_count r → i < agent_count s
  agent-back i b = subst (λ n. i < n) alike.agents b

  value-back : (i v : ℕ) → v < slice_index (sizes_of r) i → v < slice_index (sizes_of s) i
  value-back i v b = subst (λ (sizes : List ℕ). v < slice_index sizes i) alike.sizes b

  mechanism-alike : IsMechanism s m → IsMechanism r m
  mechanism-alike is = record {
    den = is.den;
    chance_count = is.chance_count ∙ sym (ap₂ (λ sizes n. profile_count sizes * n) alike.sizes alike.outcomes);
    pay_count = is.pay_count ∙ sym (ap₂ (λ sizes n. profile_count sizes * n) alike.sizes alike.agents);
    not_negative = λ t o p c. subst (λ z. pos 0 ≤ℤ z) (sym (chance-same t o)) (is.not_negative t o (back t p) (subst (λ n. o < n) alike.outcomes c));
    whole = λ t p. ap (λ n. sum_to n (chance_of r m t)) alike.outcomes ∙ sum_to-same (outcome_count s) _ _ (λ o b. chance-same t o) ∙ is.whole t (back t p);
    no_payment = λ off t i p b. off_is_on alike.second.payments off;
  }
    where
      off_is_on : {P : Type 0} {c : Bool} → c ≡ true → c ≡ false → P
      off_is_on e f = cc

  truth-alike : IsBayesTruth s m → IsBayesTruth r m
  truth-alike is i v u b l c =
      let agent = agent-back i b in
      le-alike i v (λ t. expected_utility s m i t (replaced t i u)) (λ t. expected_utility s m i t t) (λ t. expected_utility r m i t (replaced t i u)) (λ t. expected_utility r m i t t)
      (λ t p. utility-same i t (replaced t i u) agent p) (λ t p. utility-same i t t agent p) (is i v u agent (value-back i v l) (value-back i u c))

  rational-alike : IsInterimRational s m → IsInterimRational r m
  rational-alike is i v b l =
      let agent = agent-back i b in
      let mine : pos 0 ≤ℤ weighted_given s i v (λ t. expected_utility s m i t t) =
      subst (λ z. z ≤ℤ weighted_given s i v (λ t. expected_utility s m i t t)) (nothing (marginal_of s i v) (outside_of s i v) (alike.first.outside i v agent)) (is i v agent (value-back i v l)) in
      let both : x *ℤ weighted_given s i v (λ t. expected_utility s m i t t) ≡ y *ℤ weighted_given r i v (λ t. expected_utility r m i t t) =
      given-alike i v (λ t. expected_utility s m i t t) (λ t. expected_utility r m i t t) (λ t p. utility-same i t t agent p) in
      subst (λ z. z ≤ℤ weighted_given r i v (λ t. expected_utility r m i t t)) (sym (nothing (marginal_of r i v) (outside_of r i v) (alike.second.outside i v b)))
      (le_from_*ℤ y (pos 0) _ alike.right_positive
      (subst (λ z. z ≤ℤ (y *ℤ weighted_given r i v (λ t. expected_utility r m i t t))) (*ℤ-zero x ∙ sym (*ℤ-zero y))
      (subst (λ z. (x *ℤ pos 0) ≤ℤ z) both (*ℤ-le x (pos 0) _ (le_from_lt (pos 0) x alike.left_positive) mine))))
    where
      nothing : (f o : ℤ) → o ≡ pos 0 → (m.den *ℤ o) *ℤ f ≡ pos 0
      nothing f o e = ap (λ z. (m.den *ℤ z) *ℤ f) e ∙ none m.den f
        where
          none : (d f : ℤ) → (d *ℤ pos 0) *ℤ f ≡ pos 0
          none d f = simp ring

  pub admissible-alike : IsAdmissible s m → IsAdmissible r m
  admissible-alike is = record {
    mechanism = mechanism-alike is.mechanism;
    truthful = subst (λ (k : TruthKind). IsTruthfulBy k r m) (sym alike.second.truth) (truth-alike (subst (λ (k : TruthKind). IsTruthfulBy k s m) alike.first.truth is.truthful));
    rational = subst (λ (k : RationalKind). IsRationalBy k r m) (sym alike.second.rational) (rational-alike (subst (λ (k : RationalKind). IsRationalBy k s m) alike.first.rational is.rational));
    no_deficit = λ on t p. off_is_on alike.second.no_deficit on;
  }
    where
      off_is_on : {P : Type 0} {c : Bool} → c ≡ false → c ≡ true → P
      off_is_on e f = cc

-- the weights of all profiles together
pub total-alike : (s r : GeneralSetting) (x y : ℤ) → AreAlike s r x y → x *ℤ total_of s ≡ y *ℤ total_of r
total-alike s r x y alike =
    sym (total_by-*ℤ x (weight_of s) (profiles_of (sizes_of s)))
    ∙ total-same (sizes_of s) _ (λ t. y *ℤ weight_of r t) (λ t p. alike.weights t p)
    ∙ total_by-*ℤ y (weight_of r) (profiles_of (sizes_of s))
    ∙ ap (λ sizes. y *ℤ total_by (weight_of r) (profiles_of sizes)) (sym alike.sizes)
