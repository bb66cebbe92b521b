-- What bidders get and pay under a mechanism of an auction with groups: they are honest if it is admissible, and it is worth
-- what they contribute.
use Rattle.std.proofs.Common.{◌≡◌, ℕ, ◌<◌, ℤ, pos, ◌+ℤ◌, ◌-ℤ◌, ◌*ℤ◌, ◌≤ℤ◌, Bool, true, false, if◌then◌else◌, List, length, refl, sym, ap, ap₂, ◌∙◌, subst, arith}
use Rattle.std.specs.Prelude.{slice_index}
use Rattle.std.proofs.lemmas.Int.{ints}
use Rattle.md_math.specs.Sums.{sum_to, total_by}
use Rattle.md_math.proofs.Order.{*ℤ-le, nonneg-*ℤ}
use Rattle.md_math.proofs.Ring.{linear, ring, *ℤ-zero, zero-*ℤ, *ℤ_left_comm}
use Rattle.md_math.proofs.SumLaws.{sum_to-same, sum_to-zero, sum_to-+ℤ, sum_to-*ℤ, sum_to-swap, sum_to-le, sum_to-nonneg}
use Rattle.md_math.proofs.TotalLaws.{total_by-+ℤ, total_by-*ℤ}
use Rattle.md_space.specs.AllProfiles.{profiles_of}
use Rattle.md_space.specs.Profiles.{IsProfile, replaced}
use Rattle.md_space.proofs.TypeSums.{total-same, total_given-same}
use Rattle.md_setting.specs.declared.kinds.Truth.{Truth as TruthKind}
use Rattle.md_setting.specs.declared.kinds.Rational.{Rational as RationalKind}
use Rattle.md_setting.specs.Meaning.{agent_count, outcome_count, sizes_of, weight_of, total_of, outside_of, marginal_of, value_of, welfare_of}
use Rattle.md_mech.specs.declared.mechanism.Mechanism.{Mechanism}
use Rattle.md_mech.specs.Admissible.{IsAdmissible}
use Rattle.md_mech.specs.Mechanism.{chance_of, pay_of, IsMechanism}
use Rattle.md_mech.specs.Optimal.{objective_at, worth_of}
use Rattle.md_mech.specs.Rationality.{IsInterimRational, IsRationalBy}
use Rattle.md_mech.specs.Truth.{IsBayesTruth, IsTruthfulBy}
use Rattle.md_mech.specs.Utility.{expected_utility, weighted_given}
use Rattle.md_setting.specs.Grouped.{GroupedAuction, group_of, bidder_count, value_count, value_at}
use Rattle.md_bidders.specs.Assignments.{assignments, assignment_at, amount_in}
use Rattle.md_bidders.specs.Setting.{all_units, setting_of}
use Rattle.md_bidders.proofs.SettingLaws.{setting-truth, setting-rational, setting-revenue, agent_count-setting, outcome_count-setting, is-report, utility_of-setting, outside_of-setting, welfare_of-setting, value_of-setting}
use Rattle.md_list.specs.Best.{welfare_in}
use Rattle.md_list_laws.proofs.Bidders.{IsHonest}
use Rattle.md_list_laws.proofs.LateLevels.{values_in, surplus_in}
use Rattle.md_list_laws.proofs.Market.{as-many}
use Rattle.md_list_laws.proofs.Scores.{score}

-- ---- lotteries

-- the worth of a lottery over ways to give slots: a constant, and each bidder's share of what it gets on average
lottery-sum : (n k : ℕ) (chance : ℕ → ℤ) (kept : ℤ) (c : ℕ → ℤ) (amount : ℕ → ℕ → ℤ) (worth : ℕ → ℤ) → ((o : ℕ) → o < n → worth o ≡ kept +ℤ sum_to k (λ i. c i *ℤ amount o i))
    → sum_to n (λ o. chance o *ℤ worth o) ≡ kept *ℤ sum_to n chance +ℤ sum_to k (λ i. c i *ℤ sum_to n (λ o. chance o *ℤ amount o i))
lottery-sum n k chance kept c amount worth is =
    sum_to-same n _ (λ o. kept *ℤ chance o +ℤ sum_to k (λ i. c i *ℤ (chance o *ℤ amount o i)))
    (λ o b.
    ap (λ z. chance o *ℤ z) (is o b)
    ∙ parts (chance o) kept (sum_to k (λ i. c i *ℤ amount o i))
    ∙ ap (λ z. kept *ℤ chance o +ℤ z) (sym (sum_to-*ℤ k (chance o) (λ i. c i *ℤ amount o i)) ∙ sum_to-same k _ _ (λ i d. *ℤ_left_comm (chance o) (c i) (amount o i))))
    ∙ sum_to-+ℤ n (λ o. kept *ℤ chance o) (λ o. sum_to k (λ i. c i *ℤ (chance o *ℤ amount o i)))
    ∙ ap₂ (λ y z. y +ℤ z) (sum_to-*ℤ n kept chance)
    (sum_to-swap n k (λ o i. c i *ℤ (chance o *ℤ amount o i)) ∙ sum_to-same k _ _ (λ i d. sum_to-*ℤ n (c i) (λ o. chance o *ℤ amount o i)))
  where
    parts : (c k z : ℤ) → c *ℤ (k +ℤ z) ≡ k *ℤ c +ℤ c *ℤ z
    parts c k z = simp ring

-- under a lottery some bidders together get no more than under the way that is best for them
pub lottery-le : (n k : ℕ) (chance : ℕ → ℤ) (test : ℕ → Bool) (amount : ℕ → ℕ → ℤ) (whole most : ℤ) → ((o : ℕ) → o < n → pos 0 ≤ℤ chance o) → sum_to n chance ≡ whole
    → ((o : ℕ) → o < n → sum_to k (λ i. if test i then amount o i else pos 0) ≤ℤ most)
    → sum_to k (λ i. if test i then sum_to n (λ o. chance o *ℤ amount o i) else pos 0) ≤ℤ (whole *ℤ most)
lottery-le n k chance test amount whole most nonneg all less =
    subst (λ z. z ≤ℤ (whole *ℤ most)) (sym swapped)
    (subst (λ z. sum_to n (λ o. chance o *ℤ sum_to k (λ i. if test i then amount o i else pos 0)) ≤ℤ z) total
    (sum_to-le n _ _ (λ o b. *ℤ-le (chance o) _ most (nonneg o b) (less o b))))
  where
    one : (b : Bool) (f g : ℕ → ℤ) → (if b then sum_to n (λ o. f o *ℤ g o) else pos 0) ≡ sum_to n (λ o. f o *ℤ (if b then g o else pos 0))
    one true f g = refl
    one false f g = sym (sum_to-zero n _ (λ o b. *ℤ-zero (f o)))

    swapped : sum_to k (λ i. if test i then sum_to n (λ o. chance o *ℤ amount o i) else pos 0) ≡ sum_to n (λ o. chance o *ℤ sum_to k (λ i. if test i then amount o i else pos 0))
    swapped =
        sum_to-same k _ _ (λ i b. one (test i) chance (λ o. amount o i))
        ∙ sum_to-swap k n (λ i o. chance o *ℤ (if test i then amount o i else pos 0))
        ∙ sum_to-same n _ _ (λ o b. sum_to-*ℤ k (chance o) (λ i. if test i then amount o i else pos 0))

    total : sum_to n (λ o. chance o *ℤ most) ≡ whole *ℤ most
    total = sum_to-same n _ (λ o. most *ℤ chance o) (λ o b. turned (chance o) most) ∙ sum_to-*ℤ n most chance ∙ ap (λ z. most *ℤ z) all ∙ turned most whole
      where
        turned : (x y : ℤ) → x *ℤ y ≡ y *ℤ x
        turned x y = simp ring

-- ---- what bidders get

-- what bidder i gets when t is reported, in units of one over the denominator
abbrev pub gets_in : GroupedAuction → Mechanism → ℕ → List ℕ → ℤ
gets_in a m i t = sum_to (outcome_count (setting_of a)) (λ o. chance_of (setting_of a) m t o *ℤ pos (amount_in a (assignment_at a o) i))

module _ (a : GroupedAuction) (m : Mechanism) where
  pub way-inside : (o : ℕ) → o < outcome_count (setting_of a) → o < length (assignments a)
  way-inside o b = subst (λ n. o < n) (outcome_count-setting a) b

  utility-at : (i : ℕ) (t r : List ℕ) → i < bidder_count a → slice_index t i < value_count a i
      → expected_utility (setting_of a) m i t r ≡ value_at a i (slice_index t i) *ℤ gets_in a m i r -ℤ pay_of (setting_of a) m i r
  utility-at i t r b l =
      let s = setting_of a in
      let value = value_at a i (slice_index t i) in
      ap (λ z. z -ℤ pay_of s m i r)
      (sum_to-same (outcome_count s) _ (λ o. value *ℤ (chance_of s m r o *ℤ pos (amount_in a (assignment_at a o) i)))
      (λ o c. ap (λ z. chance_of s m r o *ℤ z) (utility_of-setting a i t o b l (way-inside o c)) ∙ *ℤ_left_comm (chance_of s m r o) value (pos (amount_in a (assignment_at a o) i)))
      ∙ sum_to-*ℤ (outcome_count s) value (λ o. chance_of s m r o *ℤ pos (amount_in a (assignment_at a o) i)))

  -- over the profiles in which the bidder has a value and reports as r says
  utility-given : (i v : ℕ) (r : List ℕ → List ℕ) → i < bidder_count a
      → weighted_given (setting_of a) i v (λ t. expected_utility (setting_of a) m i t (r t)) ≡ weighted_given (setting_of a) i v (λ t. value_at a i v *ℤ gets_in a m i (r t) -ℤ pay_of (setting_of a) m i (r t))
  utility-given i v r b =
      total_given-same (sizes_of (setting_of a)) i v _ _
      (λ t p e.
      ap (λ z. weight_of (setting_of a) t *ℤ z)
      (utility-at i t (r t) b ((is-report a t p).below i b) ∙ ap (λ k. value_at a i k *ℤ gets_in a m i (r t) -ℤ pay_of (setting_of a) m i (r t)) e))

  pub is-honest : IsAdmissible (setting_of a) m → (i : ℕ) → i < bidder_count a
      → IsHonest (sizes_of (setting_of a)) (weight_of (setting_of a)) i (value_at a i) (gets_in a m i) (pay_of (setting_of a) m i)
  is-honest admissible i b =
      let s = setting_of a in
      let truth : IsBayesTruth s m = subst (λ (k : TruthKind). IsTruthfulBy k s m) (setting-truth a) admissible.truthful in
      let rational : IsInterimRational s m = subst (λ (k : RationalKind). IsRationalBy k s m) (setting-rational a) admissible.rational in
      let agent : i < agent_count s = subst (λ n. i < n) (sym (agent_count-setting a)) b in
      record {
        nonneg = λ t p. sum_to-nonneg (outcome_count s) _ (λ o c. nonneg-*ℤ (chance_of s m t o) (pos (amount_in a (assignment_at a o) i)) (admissible.mechanism.not_negative t o p c) (nonneg (amount_in a (assignment_at a o) i)));
        takes_part = λ v l. subst (λ z. pos 0 ≤ℤ z) (utility-given i v (λ t. t) b) (least (m.den *ℤ outside_of s i v) (marginal_of s i v) _ (ap (λ z. m.den *ℤ z) (outside_of-setting a i v b) ∙ *ℤ-zero m.den) (rational i v agent l));
        truthful = λ v u l c.
            subst (λ z. z ≤ℤ weighted_given s i v (λ t. value_at a i v *ℤ gets_in a m i t -ℤ pay_of s m i t)) (utility-given i v (λ t. replaced t i u) b)
            (subst (λ z. weighted_given s i v (λ t. expected_utility s m i t (replaced t i u)) ≤ℤ z) (utility-given i v (λ t. t) b) (truth i v u agent l c));
      }
    where
      nonneg : (n : ℕ) → pos 0 ≤ℤ pos n
      nonneg n = omega (arith, ints)

      least : (o f u : ℤ) → o ≡ pos 0 → (o *ℤ f) ≤ℤ u → pos 0 ≤ℤ u
      least o f u e l = (let none : o *ℤ f ≡ pos 0 = ap (λ z. z *ℤ f) e ∙ zero-*ℤ f in omega (arith, linear, l, none))

  -- ---- what the mechanism is worth

  -- at a profile: the worth of keeping all units, and each bidder's surplus for what it gets
  value-at : (t : List ℕ) → IsMechanism (setting_of a) m → IsProfile (sizes_of (setting_of a)) t
      → sum_to (outcome_count (setting_of a)) (λ o. chance_of (setting_of a) m t o *ℤ value_of (setting_of a) t o)
      ≡ (a.keep *ℤ all_units a) *ℤ m.den +ℤ sum_to (bidder_count a) (λ i. surplus_in a (group_of a i) (slice_index t i) *ℤ gets_in a m i t)
  value-at t mechanism p =
      let s = setting_of a in
      lottery-sum (outcome_count s) (bidder_count a) (chance_of s m t) (a.keep *ℤ all_units a) (λ i. surplus_in a (group_of a i) (slice_index t i)) (λ o i. pos (amount_in a (assignment_at a o) i)) (value_of s t)
      (λ o b. value_of-setting a t o p (way-inside o b))
      ∙ ap (λ z. (a.keep *ℤ all_units a) *ℤ z +ℤ sum_to (bidder_count a) (λ i. surplus_in a (group_of a i) (slice_index t i) *ℤ gets_in a m i t)) (mechanism.whole t p)

  pub worth-by_score : IsMechanism (setting_of a) m
      → worth_of (setting_of a) m ≡ ((a.keep *ℤ all_units a) *ℤ total_of (setting_of a)) *ℤ m.den
      +ℤ score (sizes_of (setting_of a)) (weight_of (setting_of a)) (group_of a) (surplus_in a) a.revenue (gets_in a m) (pay_of (setting_of a) m)
  worth-by_score mechanism =
      let s = setting_of a in
      let kept = (a.keep *ℤ all_units a) *ℤ m.den in
      let n = length (sizes_of s) in
      let more = λ (t : List ℕ). weight_of s t *ℤ (sum_to n (λ i. surplus_in a (group_of a i) (slice_index t i) *ℤ gets_in a m i t) +ℤ a.revenue *ℤ sum_to n (λ i. pay_of s m i t)) in
      total-same (sizes_of s) (λ t. weight_of s t *ℤ objective_at s m t) (λ t. kept *ℤ weight_of s t +ℤ more t)
      (λ t p.
      ap₂ (λ y z. weight_of s t *ℤ (y +ℤ z)) (value-at t mechanism p) (ap₂ (λ r k. r *ℤ sum_to k (λ i. pay_of s m i t)) (setting-revenue a) (agent_count-setting a))
      ∙ ap (λ k. weight_of s t *ℤ ((kept +ℤ sum_to k (λ i. surplus_in a (group_of a i) (slice_index t i) *ℤ gets_in a m i t)) +ℤ a.revenue *ℤ sum_to k (λ i. pay_of s m i t))) (sym (as-many a))
      ∙ parts (weight_of s t) kept (sum_to n (λ i. surplus_in a (group_of a i) (slice_index t i) *ℤ gets_in a m i t)) (a.revenue *ℤ sum_to n (λ i. pay_of s m i t)))
      ∙ total_by-+ℤ (λ t. kept *ℤ weight_of s t) more (profiles_of (sizes_of s))
      ∙ ap (λ z. z +ℤ total_by more (profiles_of (sizes_of s))) (total_by-*ℤ kept (weight_of s) (profiles_of (sizes_of s)) ∙ turned (a.keep *ℤ all_units a) m.den (total_of s))
    where
      parts : (w k x y : ℤ) → w *ℤ ((k +ℤ x) +ℤ y) ≡ k *ℤ w +ℤ w *ℤ (x +ℤ y)
      parts w k x y = simp ring (omega (arith, linear))

      turned : (k d f : ℤ) → (k *ℤ d) *ℤ f ≡ (k *ℤ f) *ℤ d
      turned k d f = simp ring

  pub welfare-by_score : welfare_in (setting_of a) m ≡ score (sizes_of (setting_of a)) (weight_of (setting_of a)) (group_of a) (values_in a) (pos 0) (gets_in a m) (pay_of (setting_of a) m)
  welfare-by_score =
      let s = setting_of a in
      total-same (sizes_of s) _ _
      (λ t p.
      ap (λ z. weight_of s t *ℤ z)
      (lottery-sum (outcome_count s) (bidder_count a) (chance_of s m t) (pos 0) (λ i. values_in a (group_of a i) (slice_index t i)) (λ o i. pos (amount_in a (assignment_at a o) i)) (welfare_of s t)
      (λ o b. welfare_of-setting a t o p (way-inside o b) ∙ nothing _)
      ∙ ap (λ k. pos 0 *ℤ sum_to (outcome_count s) (chance_of s m t) +ℤ sum_to k (λ i. values_in a (group_of a i) (slice_index t i) *ℤ gets_in a m i t)) (sym (as-many a))
      ∙ turned (sum_to (outcome_count s) (chance_of s m t)) (sum_to (length (sizes_of s)) (λ i. values_in a (group_of a i) (slice_index t i) *ℤ gets_in a m i t)) (sum_to (length (sizes_of s)) (λ i. pay_of s m i t))))
    where
      nothing : (z : ℤ) → z ≡ pos 0 +ℤ z
      nothing z = omega (arith, linear)

      turned : (c x p : ℤ) → pos 0 *ℤ c +ℤ x ≡ x +ℤ pos 0 *ℤ p
      turned c x p = simp ring (omega (arith, linear))
